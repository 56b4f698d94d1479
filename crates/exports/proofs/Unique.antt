-- Two results that meet an export's promise are equal: from what `page` shows of its calls. Assumes nothing.
use mathlib.Core.Path.{◌≡◌, sym, ap, ◌∙◌}
use mathlib.Core.Bool.{Bool}
use mathlib.Core.List.{List}
use Prim.Native.Nat.{ℕ}
use Rattle.bundle_read.specs.Read.{HasRead}
use Rattle.bundle_parts.specs.Feed.{Stand, stand_of, start_of, feed_of, end_of}
use Rattle.bundle_writer.specs.Packed.{HasPacked}
use Rattle.call_build.specs.Build.{Builds}
use Rattle.check_list.specs.Checked.{Checks}
use Rattle.machine.specs.declared.Options.{Options}
use Rattle.call_text_answer.specs.Written.{Wrote}
use Rattle.call_normalize.specs.Normalized.{HasNormalized}
use Rattle.call_links_answer.specs.Listed.{Lists}
use Rattle.page.proofs.Unique as P
use Rattle.exports.specs.declared.NotepageAnswer.{NotepageAnswer}
use Rattle.exports.specs.declared.NotepageNormalized.{NotepageNormalized}
use Rattle.exports.specs.declared.NotepageRead.{NotepageRead}
use Rattle.exports.specs.declared.NotepageReader.{NotepageReader}
use Rattle.exports.specs.Told.{Told, of_written, of_normalized, of_listed, of_checked, of_built, of_packed, of_read, of_progress}
use Rattle.exports.specs.Reader.{reader_of}

-- of one answer C is told one thing
same : {A T : Type 0} {p q : A → Type 0} {tell : A → T} {r s : T} (x : Told p tell r) (y : Told q tell s) → x.answer ≡ y.answer → r ≡ s
same {tell = tell} x y e = x.tells ∙ ap tell e ∙ sym y.tells

-- notepage_escape, notepage_sanitize, notepage_sanitize_link, notepage_sanitize_image, notepage_identity
pub texts : {text result d e f : List ℕ} {r s : NotepageAnswer} → Told (Wrote text result d e) of_written r → Told (Wrote text result d f) of_written s → (r ≡ s) × (e ≡ f)
texts p q = let u = P.texts p.meets q.meets in (same p q u.0, u.1)

pub notepage_normalize : {url d e f : List ℕ} {r s : NotepageNormalized} → Told (HasNormalized url d e) of_normalized r → Told (HasNormalized url d f) of_normalized s → (r ≡ s) × (e ≡ f)
notepage_normalize p q = let u = P.normalize p.meets q.meets in (same p q u.0, u.1)

pub notepage_sanitize_links : {on : Bool} {text ends d l e m e' m' : List ℕ} {r s : NotepageAnswer} → Told (Lists on text ends d l e m) of_listed r → Told (Lists on text ends d l e' m') of_listed s
    → (r ≡ s) × (e ≡ e') × (m ≡ m')
notepage_sanitize_links p q = let u = P.sanitize_links p.meets q.meets in (same p q u.0, u.1, u.2)

pub notepage_check : {text events : List ℕ} {r s : NotepageAnswer} → Told (Checks text events) of_checked r → Told (Checks text events) of_checked s → r ≡ s
notepage_check p q = same p q (P.check p.meets q.meets)

pub notepage_build : {text events out work out₁ work₁ out₂ work₂ : List ℕ} {o : Options} {r s : NotepageAnswer}
    → Told (Builds text events o out work out₁ work₁) of_built r → Told (Builds text events o out work out₂ work₂) of_built s → (r ≡ s) × (out₁ ≡ out₂) × (work₁ ≡ work₂)
notepage_build p q = let u = P.build p.meets q.meets in (same p q u.0, u.1, u.2)

pub notepage_read_bundle : {bundle t e u f u' f' : List ℕ} {r s : NotepageRead} → Told (HasRead bundle t e u f) of_read r → Told (HasRead bundle t e u' f') of_read s → (r ≡ s) × (u ≡ u') × (f ≡ f')
notepage_read_bundle p q = let u = P.read_bundle p.meets q.meets in (same p q u.0, u.1, u.2)

pub notepage_write_bundle : {text events d e f : List ℕ} {edition : ℕ} {r s : NotepageAnswer} → Told (HasPacked text events edition d e) of_packed r → Told (HasPacked text events edition d f) of_packed s → (r ≡ s) × (e ≡ f)
notepage_write_bundle p q = let u = P.write_bundle p.meets q.meets in (same p q u.0, u.1)

-- of a reader, as of `page`'s: the answer, both buffers and all that later calls go by
pub notepage_bundle_reader : (r s : NotepageReader) → ((t e : List ℕ) → stand_of (reader_of r) t e ≡ start_of t e) → ((t e : List ℕ) → stand_of (reader_of s) t e ≡ start_of t e)
    → (t e : List ℕ) → P.Same (reader_of r) (reader_of s) t e t e
notepage_bundle_reader r s p q t e = P.bundle_reader (reader_of r) (reader_of s) p q t e

pub notepage_feed_bundle : (r s : NotepageReader) (stand : Stand) (part t e u f : List ℕ) → stand_of (reader_of r) t e ≡ feed_of stand part → stand_of (reader_of s) u f ≡ feed_of stand part
    → P.Same (reader_of r) (reader_of s) t e u f
notepage_feed_bundle r s stand part t e u f p q = P.feed_bundle (reader_of r) (reader_of s) stand part t e u f p q

pub notepage_end_bundle : (r s : NotepageReader) (stand : Stand) (t e u f : List ℕ) → stand_of (reader_of r) t e ≡ end_of stand → stand_of (reader_of s) u f ≡ end_of stand
    → P.Same (reader_of r) (reader_of s) t e u f
notepage_end_bundle r s stand t e u f p q = P.end_bundle (reader_of r) (reader_of s) stand t e u f p q

pub notepage_bundle_so_far : (reader : NotepageReader) {r s : NotepageRead} → r ≡ of_progress (reader_of reader).state.progress → s ≡ of_progress (reader_of reader).state.progress → r ≡ s
notepage_bundle_so_far reader p q = P.equal p q

pub notepage_version : {r s : ℕ} → r ≡ 200 → s ≡ 200 → r ≡ s
notepage_version p q = P.equal p q
