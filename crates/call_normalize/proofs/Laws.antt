-- What the call goes by, that two results that meet its contract are equal, and that no more is visited than bytes. Assumes nothing.
use Rattle.std.proofs.Common.{◌≡◌, Bool, true, false, not, List, ℕ, ◌≤◌, ltb, length, if◌then◌else◌, Result, Ok, Err, refl, sym, ap, ◌∙◌, arith}
use Rattle.utf8.specs.Utf8.{is_utf8}
use Rattle.normalize_uri.specs.Url.{normalize_of}
use Rattle.normalize_visits.specs.Visits.{visits_of}
use Rattle.normalize_visits.proofs.Laws.{most}
use Rattle.call_text_answer.specs.declared.Refusal.{Refusal}
use Rattle.call_text_answer.specs.declared.Refusal.TheVariants.{TooLong, NotUtf8, NoRoom}
use Rattle.call_text_answer.specs.Written.{choose, Wrote}
use Rattle.call_normalize.specs.declared.Url.{Url}
use Rattle.call_normalize.specs.Normalized.{number_of, value_of, visits_in, chosen, HasNormalized}

-- two results that meet the contract are equal
pub unique : {url d e f : List ℕ} {a b : Result Url Refusal} → HasNormalized url d e a → HasNormalized url d f b → (a ≡ b) × (e ≡ f)
unique p q = (p.answer ∙ sym q.answer, p.bytes ∙ sym q.bytes)

-- ---- what is chosen, as another choice

four : {A B : Type 0} (f : A → B) (long valid lacks : Bool) (a b c w : A)
    → f (if long then a else (if not valid then b else (if lacks then c else w))) ≡ (if long then f a else (if not valid then f b else (if lacks then f c else f w)))
four f true valid lacks a b c w = refl
four f false false lacks a b c w = refl
four f false true true a b c w = refl
four f false true false a b c w = refl

module _ (url : List ℕ) (room : ℕ) where
  as-chosen : {A B : Type 0} (f : A → B) (a b c w : A) → f (chosen url room a b c w) ≡ chosen url room (f a) (f b) (f c) (f w)
  unfolding choose
  as-chosen f a b c w = four f (ltb 64000 (length url)) (is_utf8 url) (ltb room (length (normalize_of url))) a b c w

-- ---- from the text that was written, and the visits

abbrev counted : List ℕ → Result ℕ Refusal → Result Url Refusal
counted url (Ok n) = Ok (record { length = n; visits = visits_of url })
counted url (Err r) = Err r

abbrev whole : List ℕ → Url
whole url = record { length = length (normalize_of url); visits = visits_of url }

module _ {url d e : List ℕ} {w : Result ℕ Refusal} (p : Wrote url (normalize_of url) d e w) where
  module _ {r : Result Url Refusal} (q : r ≡ counted url w) where
    chose : r ≡ chosen url (length d) (Err TooLong) (Err NotUtf8) (Err NoRoom) (Ok (whole url))
    chose = q ∙ ap (counted url) p.answer ∙ as-chosen url (length d) (counted url) (Err TooLong) (Err NotUtf8) (Err NoRoom) (Ok (length (normalize_of url)))

    told : {A : Type 0} (f : Result Url Refusal → A) → f r ≡ chosen url (length d) (f (Err TooLong)) (f (Err NotUtf8)) (f (Err NoRoom)) (f (Ok (whole url)))
    told f = ap f chose ∙ as-chosen url (length d) f (Err TooLong) (Err NotUtf8) (Err NoRoom) (Ok (whole url))

    all : HasNormalized url d e r
    all = record { answer = chose; number = told number_of; value = told value_of; visits = told visits_in; bytes = p.bytes }

  pub written : (n v : ℕ) → w ≡ Ok n → v ≡ visits_of url → HasNormalized url d e (Ok (record { length = n; visits = v }))
  written n v h k = all (rw (h, k))

  pub refused : (r : Refusal) → w ≡ Err r → HasNormalized url d e (Err r)
  refused r h = all (rw h)

-- ---- no more visits than bytes, after a refusal too

within : (long valid lacks : Bool) (n m v : ℕ) → m ≤ n → v ≡ (if long then 0 else (if not valid then 0 else (if lacks then 0 else m))) → v ≤ n
within true valid lacks n m v h q = omega arith
within false false lacks n m v h q = omega arith
within false true true n m v h q = omega arith
within false true false n m v h q = omega arith

pub most-visits : {url d e : List ℕ} {r : Result Url Refusal} → HasNormalized url d e r → visits_in r ≤ length url
unfolding choose
most-visits {url} {d} {r = r} p = within (ltb 64000 (length url)) (is_utf8 url) (ltb (length d) (length (normalize_of url))) (length url) (visits_of url) (visits_in r) (most url) p.visits
