-- A list of links and single calls: what single calls write, one behind the other, is what the list's call writes. Assumes nothing.
use Rattle.std.proofs.Common.{◌≡◌, Bool, true, false, not, List, [], ◌∷◌, ◌++◌, ℕ, ◌-◌, ltb, length, take, drop, if◌then◌else◌, Result, Ok, Err, refl, sym, ap, ap₂, ◌∙◌, take_at}
use Rattle.lent.specs.Fill.{zeros}
use Rattle.utf8.specs.Utf8.{is_utf8}
use Rattle.call_text_answer.specs.declared.Refusal as T
use Rattle.call_text_answer.specs.declared.Refusal.TheVariants.{TooLong, NotUtf8, NoRoom}
use Rattle.call_text_answer.specs.Written.{choose, Wrote}
use Rattle.call_links_answer.specs.declared.Refusal as R
use Rattle.call_links_answer.specs.declared.Refusal.TheVariants as L
use Rattle.call_links_answer.specs.Links.{link_of, links_from, joined, lengths_of, ordered, uncut, fitting}
use Rattle.call_links_answer.specs.Listed as C
use Rattle.call_links_answer.specs.Listed.{Lists, filled}
use Rattle.call_links.proofs.Urls.{links-first, links-none}

-- the URLs of a list
abbrev pub urls_from : (text : List ℕ) (from : ℕ) (ends : List ℕ) → List (List ℕ)
urls_from text from [] = []
urls_from text from (e ∷ es) = take (e - from) (drop from text) ∷ urls_from text e es

-- ---- single calls that answered a length, and what they wrote, in order

pub data Calls (on : Bool) : List (List ℕ) → List ℕ → List ℕ → Type 0 where
  none : Calls on [] [] []
  one : {url d e bytes lengths : List ℕ} {urls : List (List ℕ)} {n : ℕ} → Wrote url (link_of on url) d e (Ok n) → Calls on urls bytes lengths → Calls on (url ∷ urls) (take n e ++ bytes) (n ∷ lengths)

abbrev ok : ℕ → Result ℕ T.Refusal
ok n = Ok n

answered : (x y z : Bool) (result e f g : List ℕ) (n : ℕ) → ok n ≡ (if x then Err TooLong else (if not y then Err NotUtf8 else (if z then Err NoRoom else Ok (length result))))
    → e ≡ (if x then f else (if not y then f else (if z then f else result ++ g))) → (n ≡ length result) × (take n e ≡ result)
answered true y z result e f g n p q = cc
answered false false z result e f g n p q = cc
answered false true true result e f g n p q = cc
answered false true false result e f g n p q = let k : n ≡ length result = cc in (k, rw (q, k) (take_at result g (length result) refl))

wrote-length : {url result d e : List ℕ} {n : ℕ} → Wrote url result d e (Ok n) → (n ≡ length result) × (take n e ≡ result)
unfolding choose
wrote-length {url} {result} {d} {e} {n} w =
    answered (ltb 64000 (length url)) (is_utf8 url) (ltb (length d) (length result)) result e (zeros (length d)) (zeros (length d - length result)) n w.answer w.bytes

together : (on : Bool) (text : List ℕ) (from : ℕ) (ends : List ℕ) {bytes lengths : List ℕ} → Calls on (urls_from text from ends) bytes lengths
    → (joined (links_from on text from ends) ≡ bytes) × (lengths_of (links_from on text from ends) ≡ lengths)
together on text from [] none = (ap joined (links-none on text from), ap lengths_of (links-none on text from))
together on text from (e ∷ es) (one w c) =
    let i = together on text e es c in
    let k = wrote-length w in (
      ap joined (links-first on text from e es) ∙ ap₂ (λ (s t : List ℕ). s ++ t) (sym k.1) i.0,
      ap lengths_of (links-first on text from e es) ∙ ap₂ (λ (n : ℕ) (t : List ℕ). n ∷ t) (sym k.0) i.1,
    )

abbrev listed : ℕ → Result ℕ R.Refusal
listed n = Ok n

-- a list's answer that is a length is the last case
last : {A : Type 0} (x y z u v w : Bool) (i j k n m : ℕ) (a b : A)
    → listed n ≡ (if x then Err L.WrongSize else (if y then Err L.WrongSize else (if z then Err (L.WrongEnd i) else (if not u then Err L.NotUtf8 else (if v then Err (L.Cut j) else (if w then Err (L.NoRoom k) else Ok m))))))
    → (if x then a else (if y then a else (if z then a else (if not u then a else (if v then a else (if w then a else b)))))) ≡ b
last true y z u v w i j k n m a b p = cc
last false true z u v w i j k n m a b p = cc
last false false true u v w i j k n m a b p = cc
last false false false false v w i j k n m a b p = cc
last false false false true true w i j k n m a b p = cc
last false false false true false true i j k n m a b p = cc
last false false false true false false i j k n m a b p = refl

-- what the list's call left is what single calls wrote, in order, with zeros behind
pub single-calls : {on : Bool} {text ends d l e m bytes lengths : List ℕ} {n : ℕ} → Lists on text ends d l e m (Ok n) → Calls on (urls_from text 0 ends) bytes lengths → (e ≡ filled d bytes) × (m ≡ filled l lengths)
unfolding C.choose
single-calls {on} {text} {ends} {d} {l} {n = n} p c =
    let i = together on text 0 ends c in
    let at : (f g : List ℕ)
    → C.choose on text ends (length d) (length l) f (λ k. f) f (λ k. f) (λ k. f) g ≡ g =
    λ f g. last (ltb 64000 (length text)) (ltb (length l) (length ends)) (ltb (ordered (length text) 0 ends) (length ends)) (is_utf8 text) (ltb (uncut text ends) (length ends))
    (ltb (fitting (length d) (links_from on text 0 ends)) (length ends)) (ordered (length text) 0 ends) (uncut text ends) (fitting (length d) (links_from on text 0 ends))
    n (length (joined (links_from on text 0 ends))) f g p.answer
    in (
      p.bytes ∙ at (zeros (length d)) (filled d (joined (links_from on text 0 ends))) ∙ ap (filled d) i.0,
      p.lengths ∙ at (zeros (length l)) (filled l (lengths_of (links_from on text 0 ends))) ∙ ap (filled l) i.1,
    )
