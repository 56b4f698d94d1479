-- From an answer to what C is told of it, and back. Assumes nothing.
use Rattle.std.proofs.Common.{◌≡◌, refl, ap, ◌∙◌, Bool, true, false, List, ℕ, ◌/◌, ◌%◌, ne_eqb, Result}
use mir.Val.{bool_byte}
use Rattle.bundle_block.specs.declared.Refusal.{Refusal}
use Rattle.bundle_block.specs.declared.Refusal.TheVariants.{Short, Broken, BadCheck, OtherEdition}
use Rattle.std.specs.Prelude.{Some, None, Ok, Err}
use Rattle.bundle_read.specs.Read.{Answer}
use Rattle.bundle_parts.specs.declared.Reader.{Reader}
use Rattle.bundle_parts.specs.Feed.{Progress, stand_of, start_of, feed_of, end_of}
use Rattle.bundle_known.specs.declared.Known.{Known}
use Rattle.call_build_answer.specs.Built.{Built}
use Rattle.call_build.specs.Build.{Builds}
use Rattle.encode_byte.specs.declared.Escaping.{Escaping}
use Rattle.encode_byte.specs.Byte.{escaping_of}
use Rattle.encode.specs.Encode.{encode_of}
use Rattle.sanitize_uri.specs.Url.{sanitize_of}
use Rattle.sanitize_uri.specs.Protocols.{link_schemes, image_schemes, sanitize_with_protocols_of}
use Rattle.call_links_answer.specs.declared.Refusal as K
use Rattle.call_links_answer.specs.Listed.{Lists}
use Rattle.call_text_answer.specs.declared.Refusal as T
use Rattle.call_text_answer.specs.Written.{Wrote}
use Rattle.character_reference.specs.declared.Names.{Names}
use Rattle.machine.specs.declared.Ending.{Ending}
use Rattle.machine.specs.declared.Ending.TheVariants.{Lf, Cr, CrLf}
use Rattle.machine.specs.declared.Options.{Options}
use Rattle.exports.specs.declared.NotepageAnswer.{NotepageAnswer}
use Rattle.exports.specs.declared.NotepageNormalized.{NotepageNormalized}
use Rattle.exports.specs.declared.NotepageRead.{NotepageRead}
use Rattle.exports.specs.declared.NotepageReader.{NotepageReader}
use Rattle.exports.specs.Told.{Told, of_written, of_listed, of_built, of_read, of_progress, is_done}
use Rattle.exports.specs.Given.{has_bit, ending_of, names_of, options_of, escaping_in}
use Rattle.exports.specs.Reader.{is_set, refusal_of, answer_of, progress_of, known_of, reader_of}

-- ---- options

pub ending-cr : {n : ℕ} → n ≡ 1 → Cr ≡ ending_of n
unfolding ending_of
ending-cr h = rw h

pub ending-cr-lf : {n : ℕ} → n ≡ 2 → CrLf ≡ ending_of n
unfolding ending_of
ending-cr-lf h = rw h

pub ending-lf : (n : ℕ) → (n ≡ 1 → ⊥) → (n ≡ 2 → ⊥) → Lf ≡ ending_of n
unfolding ending_of
ending-lf n p q = rw (ne_eqb n 1 p, ne_eqb n 2 q)

pub options : {a b c d x : Bool} {e : Ending} {h : Names} (n : ℕ) → a ≡ has_bit 1 n → b ≡ has_bit 2 n → c ≡ has_bit 4 n → d ≡ has_bit 8 n → e ≡ ending_of (n / 256 % 4) → x ≡ has_bit 65536 n → h ≡ names_of x
    → ◌≡◌ {A = Options} (record { allow_dangerous_html = a; allow_dangerous_protocol = b; allow_any_img_src = c; escape_apostrophes = d; ending = e; names = h }) (options_of n)
unfolding options_of
options n p q s w t u v = rw (p, q, s, w, t, v, u)

-- ---- the reader's state

pub refusal-short : {n : ℕ} (place : ℕ) → n ≡ 1 → Short ≡ refusal_of n place
unfolding refusal_of
refusal-short place h = rw h

pub refusal-check : {n : ℕ} (place : ℕ) → n ≡ 11 → BadCheck place ≡ refusal_of n place
unfolding refusal_of
refusal-check place h = rw h

pub refusal-edition : {n : ℕ} (place : ℕ) → n ≡ 12 → OtherEdition place ≡ refusal_of n place
unfolding refusal_of
refusal-edition place h = rw h

pub refusal-broken : (n place : ℕ) → (n ≡ 1 → ⊥) → (n ≡ 11 → ⊥) → (n ≡ 12 → ⊥) → Broken place ≡ refusal_of n place
unfolding refusal_of
refusal-broken n place p q r = rw (ne_eqb n 1 p, ne_eqb n 11 q, ne_eqb n 12 r)

pub answer-bundle : (a : NotepageRead) → a.number ≡ 0 → Ok (record { text = a.value; events = a.events; edition = a.edition }) ≡ answer_of a
unfolding answer_of
answer-bundle a h = rw h

pub answer-refused : (a : NotepageRead) {r : Refusal} → (a.number ≡ 0 → ⊥) → r ≡ refusal_of a.number a.value → Err r ≡ answer_of a
unfolding answer_of
answer-refused a h k = rw (ne_eqb a.number 0 h, k)

pub progress-more : {n : ℕ} (a : NotepageRead) → n ≡ 0 → None ≡ progress_of n a
unfolding progress_of
progress-more a h = rw h

pub progress-done : (n : ℕ) (a : NotepageRead) {r : Answer} → (n ≡ 0 → ⊥) → r ≡ answer_of a → Some r ≡ progress_of n a
unfolding progress_of
progress-done n a h k = rw (ne_eqb n 0 h, k)

pub set_told : (b : Bool) → is_set (bool_byte b) ≡ b
set_told true = refl
set_told false = refl

answer-told : (a : Answer) → answer_of (of_read a) ≡ a
unfolding answer_of refusal_of
answer-told (Ok c) = refl
answer-told (Err Short) = refl
answer-told (Err (Broken b)) = refl
answer-told (Err (BadCheck b)) = refl
answer-told (Err (OtherEdition b)) = refl

pub progress-told : (p : Progress) → progress_of (bool_byte (is_done p)) (of_progress p) ≡ p
unfolding progress_of
progress-told None = refl
progress-told (Some a) = ap Some (answer-told a)

pub reader-given : (r : NotepageReader) {k : Known} {p : Progress} → k ≡ known_of r → p ≡ progress_of r.done r.answer
    → ◌≡◌ {A = Reader} (record { state = record { known = k; held = r.held; over = is_set r.over; progress = p }; rest = r.rest }) (reader_of r)
unfolding reader_of
reader-given r h k = rw (h, k)

pub reader-told : (r : Reader) {b : Bool} {a : NotepageRead} → b ≡ is_done r.state.progress → a ≡ of_progress r.state.progress
    → reader_of
    (record {
      begun = bool_byte r.state.known.begun;
      edition = r.state.known.edition;
      text = r.state.known.text;
      events = r.state.known.events;
      text_came = r.state.known.text_came;
      events_came = r.state.known.events_came;
      over = bool_byte r.state.over;
      done = bool_byte b;
      held = r.state.held;
      answer = a;
      rest = r.rest;
    })
    ≡ r
unfolding reader_of
reader-told r h k = rw (h, k, set_told r.state.known.begun, set_told r.state.over, progress-told r.state.progress)

-- one in which every number is zero is one before the first part
pub zero-starts : (t e : List ℕ) (r : NotepageReader) → r.begun ≡ 0 → r.edition ≡ 0 → r.text ≡ 0 → r.events ≡ 0 → r.text_came ≡ 0 → r.events_came ≡ 0 → r.over ≡ 0 → r.done ≡ 0 → r.held ≡ 0
    → stand_of (reader_of r) t e ≡ start_of t e
unfolding reader_of progress_of
zero-starts t e r a b c d f g h i j = rw (a, b, c, d, f, g, h, i, j)

-- ---- the calls, with what C hands over in the place of what `page` is handed

pub builds : {text events out work out' work' : List ℕ} {o : Options} {b : Built} (n : ℕ) {r : NotepageAnswer} → o ≡ options_of n → Builds text events o out work out' work' b → r ≡ of_built b
    → Told (Builds text events (options_of n) out work out' work') of_built r
builds {b = b} n e k q = record { answer = b; meets = rw (← e) k; tells = q }

pub starts : (r : NotepageReader) {x : Reader} → reader_of r ≡ x → ((t e : List ℕ) → stand_of x t e ≡ start_of t e) → (t e : List ℕ) → stand_of (reader_of r) t e ≡ start_of t e
starts r h f t e = rw h (f t e)

pub feeds : (r s : NotepageReader) {x y : Reader} (part t e t' e' : List ℕ) → x ≡ reader_of r → stand_of y t' e' ≡ feed_of (stand_of x t e) part → reader_of s ≡ y
    → stand_of (reader_of s) t' e' ≡ feed_of (stand_of (reader_of r) t e) part
feeds r s part t e t' e' h k m = rw (m, ← h) k

pub ends : (r s : NotepageReader) {x y : Reader} (t e t' e' : List ℕ) → x ≡ reader_of r → stand_of y t' e' ≡ end_of (stand_of x t e) → reader_of s ≡ y
    → stand_of (reader_of s) t' e' ≡ end_of (stand_of (reader_of r) t e)
ends r s t e t' e' h k m = rw (m, ← h) k

pub so_far : (r : NotepageReader) {x : Reader} {p : Progress} {a : NotepageRead} → x ≡ reader_of r → p ≡ x.state.progress → a ≡ of_progress p → a ≡ of_progress (reader_of r).state.progress
so_far r h k m = m ∙ ap of_progress (k ∙ ap (λ (y : Reader). y.state.progress) h)
