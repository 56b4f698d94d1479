-- Two results that meet a public call's promise are equal: one law for each call, under its name. Assumes nothing.
use Rattle.std.proofs.Common.{◌≡◌, Bool, List, ℕ, Result, sym, ◌∙◌}
use Rattle.call_text_answer.specs.declared.Refusal.{Refusal}
use Rattle.call_text_answer.specs.Written.{number_of, value_of, Wrote}
use Rattle.call_text_answer.proofs.Laws as W
use Rattle.call_normalize.specs.declared.Url.{Url}
use Rattle.call_normalize.specs.Normalized.{HasNormalized}
use Rattle.call_normalize.proofs.Laws as N
use Rattle.call_links_answer.specs.declared.Refusal.{Refusal as ListRefusal}
use Rattle.call_links_answer.specs.Listed.{Lists}
use Rattle.call_links_answer.proofs.Promise as L
use Rattle.check_list.specs.Checked.{Checked, Checks}
use Rattle.check_list.proofs.Numbers as C
use Rattle.machine.specs.declared.Options.{Options}
use Rattle.call_build_answer.specs.Built.{Built}
use Rattle.call_build.specs.Build.{Builds}
use Rattle.call_build.proofs.Exactly as B
use Rattle.bundle_read.specs.Read.{Answer, HasRead}
use Rattle.bundle_read.proofs.Bundle as R
use Rattle.bundle_writer.specs.Packed.{Packed, HasPacked}
use Rattle.bundle_writer.proofs.Call as P
use Rattle.bundle_parts.specs.declared.Reader.{Reader}
use Rattle.bundle_parts.specs.Feed.{Progress, Stand, stand_of, start_of, feed_of, end_of}
use Rattle.bundle_parts.proofs.Parts as S

-- where the promise is an equation: the numbers, values and places of every answer too
pub equal : {A : Type 0} {x r s : A} → r ≡ x → s ≡ x → r ≡ s
equal p q = p ∙ sym q

-- escape, sanitize, sanitize_link, sanitize_image, identity
pub texts : {text result d e f : List ℕ} {r s : Result ℕ Refusal} → Wrote text result d e r → Wrote text result d f s → (r ≡ s) × (e ≡ f)
texts p q = W.unique p q

pub normalize : {url d e f : List ℕ} {r s : Result Url Refusal} → HasNormalized url d e r → HasNormalized url d f s → (r ≡ s) × (e ≡ f)
normalize p q = N.unique p q

pub sanitize_links : {on : Bool} {text ends d l e m e' m' : List ℕ} {r s : Result ℕ ListRefusal} → Lists on text ends d l e m r → Lists on text ends d l e' m' s → (r ≡ s) × (e ≡ e') × (m ≡ m')
sanitize_links p q = L.unique p q

pub check : {text events : List ℕ} {r s : Checked} → Checks text events r → Checks text events s → r ≡ s
check p q = C.unique p q

pub build : {text events out work out₁ work₁ out₂ work₂ : List ℕ} {o : Options} {r s : Built} → Builds text events o out work out₁ work₁ r → Builds text events o out work out₂ work₂ s
    → (r ≡ s) × (out₁ ≡ out₂) × (work₁ ≡ work₂)
build p q = B.unique p q

pub read_bundle : {bundle t e u f u' f' : List ℕ} {r s : Answer} → HasRead bundle t e u f r → HasRead bundle t e u' f' s → (r ≡ s) × (u ≡ u') × (f ≡ f')
read_bundle p q = R.unique p q

pub write_bundle : {text events d e f : List ℕ} {edition : ℕ} {r s : Packed} → HasPacked text events edition d e r → HasPacked text events edition d f s → (r ≡ s) × (e ≡ f)
write_bundle p q = P.unique p q

-- of a reader: the answer, both buffers and all that later calls go by; bytes behind the rest may differ, and no call reads them
abbrev pub Same : (r s : Reader) (t e u f : List ℕ) → Type 0
Same r s t e u f = (r.state.progress ≡ s.state.progress) × (t ≡ u) × (e ≡ f) × (stand_of r t e ≡ stand_of s u f)

pub bundle_reader : (r s : Reader) → ((t e : List ℕ) → stand_of r t e ≡ start_of t e) → ((t e : List ℕ) → stand_of s t e ≡ start_of t e) → (t e : List ℕ) → Same r s t e t e
bundle_reader r s p q t e = S.unique r s t e t e (p t e) (q t e)

pub feed_bundle : (r s : Reader) (stand : Stand) (part t e u f : List ℕ) → stand_of r t e ≡ feed_of stand part → stand_of s u f ≡ feed_of stand part → Same r s t e u f
feed_bundle r s stand part t e u f p q = S.unique r s t e u f p q

pub end_bundle : (r s : Reader) (stand : Stand) (t e u f : List ℕ) → stand_of r t e ≡ end_of stand → stand_of s u f ≡ end_of stand → Same r s t e u f
end_bundle r s stand t e u f p q = S.unique r s t e u f p q

pub bundle_so_far : (reader : Reader) {r s : Progress} → r ≡ reader.state.progress → s ≡ reader.state.progress → r ≡ s
bundle_so_far reader p q = equal p q

pub number : (w : Result ℕ Refusal) {r s : ℕ} → r ≡ number_of w → s ≡ number_of w → r ≡ s
number w p q = equal p q

pub value : (w : Result ℕ Refusal) {r s : ℕ} → r ≡ value_of w → s ≡ value_of w → r ≡ s
value w p q = equal p q
