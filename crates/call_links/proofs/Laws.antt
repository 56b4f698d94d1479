-- The loop over the URLs: what was written and what is left to write are the whole list. Assumes nothing.
use Rattle.std.proofs.Common.{◌≡◌, Bool, List, [], ◌∷◌, ◌++◌, ℕ, ◌+◌, ◌-◌, ◌≤◌, ◌<◌, length, take, drop, set, get_or, Result, Ok, Err, sym, ap, ◌∙◌, zero-add, arith, w32, Fits, drop_of_length-le}
use Rattle.lent.specs.Fill.{zeros, Filled}
use Rattle.lent.proofs.Laws.{length-filled, take-fill, next, put_in, Left, all, step, done}
use Rattle.call_links_answer.specs.declared.Refusal.{Refusal}
use Rattle.call_links_answer.specs.declared.Refusal.TheVariants.{NoRoom}
use Rattle.call_links_answer.specs.Links.{link_of, links_from, joined, lengths_of, ordered, fitting}
use Rattle.call_links_answer.specs.Listed.{Lists, taken_of, filled, Refuses, Finishes}
use Rattle.call_links_answer.proofs.Promise.{told}
use Rattle.call_links_answer.proofs.Good.{good, none_answers, all-answer}
use Rattle.call_links.proofs.Size.{link-short}
use Rattle.call_links.proofs.Urls.{order-first, links-first, links-none, fits_not, fits-first, fits-none}

-- d and l were lent; before the URL with the index i, which begins at `from`, both hold what was written, up to `at` and to i
pub record Going (on : Bool) (text ends d l d' l' : List ℕ) (i from at : ℕ) : Type 0 where
  pub room : at ≤ length d'
  pub start : from ≤ length text
  pub order : length (drop i ends) ≤ ordered (length text) from (drop i ends)
  pub bytes : Left d 0 (joined (links_from on text 0 ends)) d' at (joined (links_from on text from (drop i ends)))
  pub lengths : Left l 0 (lengths_of (links_from on text 0 ends)) l' i (lengths_of (links_from on text from (drop i ends)))
  pub fit : i + fitting (length d' - at) (links_from on text from (drop i ends)) ≡ fitting (length d) (links_from on text 0 ends)

pub begins : (on : Bool) (text ends d l : List ℕ) → taken_of text ends (length l) ≡ Ok tt → Going on text ends d l d l 0 0 0
begins on text ends d l p =
    let e : length d - 0 ≡ length d = omega arith in
    record {
      room = omega arith;
      start = omega arith;
      order = (good text ends (length l) p).order;
      bytes = all;
      lengths = all;
      fit = rw (e, zero-add);
    }

-- ---- one URL more

module _ {on : Bool} {text ends d l d' l' : List ℕ} {i from at e : ℕ} (g : Going on text ends d l d' l' i from at) (h : i < length ends) (p : e ≡ get_or ends i 0) where
  rest : drop i ends ≡ e ∷ drop (i + 1) ends
  rest = next ends i h ∙ rw (← p)

  links : links_from on text from (drop i ends) ≡ link_of on (take (e - from) (drop from text)) ∷ links_from on text e (drop (i + 1) ends)
  links = rw rest (links-first on text from e (drop (i + 1) ends))

  ordered-on : (from ≤ e) × (e ≤ length text) × (length (drop (i + 1) ends) ≤ ordered (length text) e (drop (i + 1) ends))
  ordered-on = order-first (length text) from e (drop (i + 1) ends) (rw rest at g.order)

  pub ends-after : from ≤ e
  ends-after = ordered-on.0

  pub ends-within : e ≤ length text
  ends-within = ordered-on.1

  module _ {f : List ℕ} {b : ℕ} (k : Filled d' at (link_of on (take (e - from) (drop from text))) f b) where
    same-room : length f ≡ length d'
    same-room = length-filled k

    -- it has no room
    pub lacks : length f < b → i ≡ fitting (length d) (links_from on text 0 ends)
    lacks m =
        let q = k.place in
        let r = g.room in
        let s : length d' - at < length (link_of on (take (e - from) (drop from text))) = omega (arith, same-room) in
        omega (arith, rw links at g.fit, fits_not (length d' - at) (link_of on (take (e - from) (drop from text))) (links_from on text e (drop (i + 1) ends)) s)

    module _ (m : b ≤ length f) where
      place : b ≡ at + length (link_of on (take (e - from) (drop from text)))
      place = let q = k.place in let r = g.room in omega (arith, same-room)

      -- its length is a word
      pub is_word : taken_of text ends (length l) ≡ Ok tt → Fits w32 (b - at)
      is_word t = omega (arith, place, link-short on (drop from text) (e - from), ends-within, (good text ends (length l) t).short)

      pub has-place : taken_of text ends (length l) ≡ Ok tt → i < length l'
      has-place t = omega (arith, g.lengths.long, (good text ends (length l) t).enough)

      pub goes : taken_of text ends (length l) ≡ Ok tt → Going on text ends d l f (set l' i (b - at)) (i + 1) e b
      goes t =
          let r = g.room in
          let x : b - at ≡ length (link_of on (take (e - from) (drop from text))) = omega (arith, place) in
          let y : length d' - at - length (link_of on (take (e - from) (drop from text))) ≡ length f - b = omega (arith, place, same-room) in
          record {
            room = m;
            start = ends-within;
            order = ordered-on.2;
            bytes = step (ap joined links) g.bytes k;
            lengths = step {s = length (link_of on (take (e - from) (drop from text))) ∷ []} (ap lengths_of links) g.lengths (rw (← x) (put_in l' i (b - at) (has-place t)));
            fit =
                omega (arith, rw links at g.fit, rw y at (fits-first (length d' - at) (link_of on (take (e - from) (drop from text))) (links_from on text e (drop (i + 1) ends)) (omega (arith, place, same-room))));
          }

-- ---- the end

-- what was appended to a buffer from its start on, with zeros behind it
kept : {d s e f : List ℕ} {at : ℕ} → Filled d 0 s e at → at ≤ length e → f ≡ take at e ++ zeros (length e - at) → (at ≡ length s) × (f ≡ filled d s)
kept {d} {s} {e} {f} {at} k h p =
    let l = length-filled k in
    let q = k.place in
    let n : at ≡ length s = omega arith in
    let t : take (length s) e ≡ s = rw zero-add at (ap (take (0 + length s)) k.bytes ∙ take-fill d 0 s (omega arith)) in
    (n, p ∙ rw (n, l, t))

module _ {on : Bool} {text ends d l d' l' e m : List ℕ} {i from at : ℕ} {r : Result ℕ Refusal} (t : taken_of text ends (length l) ≡ Ok tt) (g : Going on text ends d l d' l' i from at) where
  pub no_room_lem : {f : List ℕ} {n b : ℕ} → i < length ends → n ≡ get_or ends i 0 → Filled d' at (link_of on (take (n - from) (drop from text))) f b → length f < b → Refuses f l' (Err (NoRoom i)) e m r
      → Lists on text ends d l e m r
  no_room_lem h p k u q =
      let x = sym (length-filled k ∙ g.bytes.long) in
      told (q.answer ∙ none_answers text ends (length l) t on (length d) (lacks g h p k u) h) (rw (q.answer, x) q.bytes) (rw (q.answer, ← g.lengths.long) q.lengths)

  pub ended : i ≤ length ends → length ends ≤ i → Finishes d' l' at (length ends) e m r → Lists on text ends d l e m r
  ended h k q =
      let c : length ends ≡ i = omega arith in
      let n : links_from on text from (drop i ends) ≡ [] = rw (drop_of_length-le ends k) (links-none on text from) in
      let x = kept (done (ap joined n) g.bytes) g.room q.bytes in
      let y = kept (done (ap lengths_of n) g.lengths) (omega (arith, g.lengths.long, (good text ends (length l) t).enough)) (rw c at q.lengths) in
      let a = all-answer text ends (length l) t on (length d) (omega (arith, rw n at g.fit, fits-none (length d' - at))) in
      let w : r ≡ Ok (length (joined (links_from on text 0 ends))) = q.answer ∙ ap (λ (n : ℕ). Ok n) x.0 in
      told (w ∙ a) (rw w x.1) (rw w y.1)
