-- The event's slice as a URL. Assumes nothing.
use Rattle.std.specs.Prelude.{◌⊎◌}
use mathlib.Core.Path.{◌≡◌, ap, ◌∙◌}
use mathlib.Core.Bool.{false}
use mathlib.Core.List.{List, ◌++◌}
use Prim.Native.Nat.{ℕ, ◌<◌}
use Prim.Native.String.{String}
use native.Mathlib.Omega.{arith}
use lib.ListN.{length}
use Rattle.lent.specs.Bytes.{bytes}
use Rattle.event.specs.declared.Event.{Event}
use Rattle.machine.specs.declared.Options.{Options}
use Rattle.machine.specs.State.{State}
use Rattle.machine.specs.Outcome.{go}
use Rattle.machine.specs.Buffers.{push}
use Rattle.machine.specs.Turn.{Turn, own_str, url_of}
use Rattle.machine.specs.Command as C
use Rattle.machine.specs.Command.{made}
use Rattle.machine.specs.Words.{url}
use Rattle.machine.proofs.Outcomes.{first_goes}
use Rattle.machine_bounded.specs.Within.{within}
use Rattle.machine_bounded.proofs.Bounds.{wrote}
use Rattle.state_buffers.specs.declared.Buffers.{Buffers}
use Rattle.state_buffers.specs.Stand as Stand
use Rattle.write_pieces.specs.Pieces.{PushesMail}
use Rattle.state_context.specs.declared.Context.{Context}
use Rattle.state_context.specs.Rel.{Sees, Keeps}
use Rattle.state_context.proofs.Laws.{with_buffers, rel-buffers, pushed}
use Rattle.on_inline.specs.View.{SeesWith}
use Rattle.state_context.proofs.Slices.{Sliced, no-slice}
use Rattle.on_inline.proofs.Own.{slice_in, own}

abbrev address_of : String → Turn → List ℕ → List ℕ
address_of scheme t b = url_of t.options false (bytes scheme ++ b)

module _ {View : Turn → Type 0} {text : List ℕ} {e : Event} (sees : (t : Turn) → View t → Sees text e t) (scheme : String) where
  -- there is a slice, and it is appended behind the scheme
  went : (t : Turn) (s u : State) → View t → within (url scheme) t s ≡ go u → (b : List ℕ) × Sliced text e b × (push (address_of scheme t b) s ≡ u)
  went t s u v p =
      let q = wrote (made (C.url scheme)) t s u p in
      let f = first_goes (own_str t) (λ b. go (address_of scheme t b)) q.0 q.1 in
      let z : address_of scheme t f.0 ≡ q.0 = (let y = f.2 in cc) in
      (f.0, own t f.0 (sees t v) f.1, ap (λ (l : List ℕ). push l s) z ∙ q.2)

  module _ {c : Context} {w o : List ℕ} where
    nowhere : (e.to.0 < e.from.0) ⊎ (length text < e.to.0) → Keeps View (url scheme) c w o c w o
    nowhere h = record { keeps = λ t b s u v x p. absurd (no-slice h (went t s u v p).1) }

    links : {z : List ℕ} {x : Buffers} {w' o' : List ℕ} → z ≡ slice_in text e → ((t : Turn) → View t → Stand.Keeps (push (address_of scheme t z)) c.buffers w o x w' o') → Keeps View (url scheme) c w o (with_buffers x c) w' o'
    links {z} i k = record {
      keeps = λ t b s u v x p.
          let q = went t s u v p in
          let h : push (address_of scheme t z) s ≡ u = rw (i, ← q.1.bytes) q.2 in
          rw (← h) (rel-buffers x (pushed (address_of scheme t z) s) ((k t v).keeps b s x.stand));
    }

-- ---- by the options

module _ (text : List ℕ) (e : Event) {options : Options} {c : Context} {w o : List ℕ} where
  pub no-url : (e.to.0 < e.from.0) ⊎ (length text < e.to.0) → Keeps (SeesWith text e options) (url "") c w o c w o
  no-url h = nowhere (λ t v. v.sees) "" h

  pub urls : {z : List ℕ} {x : Buffers} {w' o' : List ℕ} → z ≡ slice_in text e → Stand.Keeps (push (url_of options false z)) c.buffers w o x w' o' → Keeps (SeesWith text e options) (url "") c w o (with_buffers x c) w' o'
  urls i k = links (λ t v. v.sees) "" i (λ t v. rw v.options-are k)

-- ---- mail

module _ (text : List ℕ) (e : Event) {options : Options} {c : Context} {w o : List ℕ} where
  pub no-mail : (e.to.0 < e.from.0) ⊎ (length text < e.to.0) → Keeps (SeesWith text e options) (url "mailto:") c w o c w o
  no-mail h = nowhere (λ t v. v.sees) "mailto:" h

  pub mails : {z : List ℕ} {x : Buffers} {w' o' : List ℕ} → z ≡ slice_in text e → PushesMail options.escape_apostrophes z c.buffers w o x w' o' → Keeps (SeesWith text e options) (url "mailto:") c w o (with_buffers x c) w' o'
  mails i k = links (λ t v. v.sees) "mailto:" i (λ t v. k.pushes t.options (ap (λ (x : Options). x.escape_apostrophes) v.options-are))
