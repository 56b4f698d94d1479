-- The answer's number and place, by the first rule that is broken; and that two results that meet the promise are equal. Assumes nothing.
use Rattle.std.proofs.Common.{if◌then◌else◌, Option, Some, None, Ok, Err, ◌≡◌, refl, sym, ap, ◌∙◌, Bool, true, false, not, List, ℕ}
use Rattle.utf8.specs.Utf8.{is_utf8}
use Rattle.check_nesting.specs.Tag.{tags_of}
use Rattle.check_nesting.specs.Pass.{nest_of}
use Rattle.check_fields.specs.Fields.{fields_of}
use Rattle.check_slices.specs.Slices.{slices_of}
use Rattle.check_slices.specs.Counts.{counts_of}
use Rattle.check_labels.specs.Labels.{undefined_of}
use Rattle.check_list.specs.declared.Refusal.TheVariants.{WrongLength, NotUtf8, Field, Nested, Slice, Count, Label}
use Rattle.check_list.specs.Checked.{Checked, number_of, place_of, event, sizes_hold, check_of, choose, Checks}
use Rattle.check_list.specs.Stairs.{stairs_of, from_fields, from_nesting, from_slices, from_counts, from_labels, after}

-- two results that meet the promise are equal
pub unique : {text events : List ℕ} {a b : Checked} → Checks text events a → Checks text events b → a ≡ b
unique p q = p.answer ∙ sym q.answer

-- what is made of the answer is chosen by the same rules, and so is what the stairs come to
module _ {A : Type 0} (f : Checked → A) where
  abbrev chosen_by : Bool → Bool → (a b c d e : Option ℕ) → A
  chosen_by x y a b c d e =
      if x then f (Err WrongLength)
      else (if y then f (Err NotUtf8)
      else
      elim a [
        | Some i ↦ f (Err (Field (event i)))
        | None ↦ elim b [
          | Some i ↦ f (Err (Nested (event i)))
          | None ↦ elim c [
            | Some i ↦ f (Err (Slice (event i)))
            | None ↦ elim d [
              | Some i ↦ f (Err (Count (event i)))
              | None ↦ elim e [ Some i ↦ f (Err (Label (event i))) | None ↦ f (Ok tt) ]
            ]
          ]
        ]
      ])

  by-stairs : (x y : Bool) (a b c d e : Option ℕ)
      → f (if x then Err WrongLength else (if y then Err NotUtf8 else after a (λ i. Field i) (after b (λ i. Nested i) (after c (λ i. Slice i) (after d (λ i. Count i) (after e (λ i. Label i) (Ok tt))))))) ≡ chosen_by x y a b c d e
  by-stairs true y a b c d e = refl
  by-stairs false true a b c d e = refl
  by-stairs false false (Some i) b c d e = refl
  by-stairs false false None (Some i) c d e = refl
  by-stairs false false None None (Some i) d e = refl
  by-stairs false false None None None (Some i) e = refl
  by-stairs false false None None None None (Some i) = refl
  by-stairs false false None None None None None = refl

  chosen-stairs : (text events : List ℕ) → f (stairs_of text events) ≡ choose text events (f (Err WrongLength)) (f (Err NotUtf8)) (λ i. f (Err (Field (event i)))) (λ i. f (Err (Nested (event i)))) (λ i. f (Err (Slice (event i)))) (λ i. f (Err (Count (event i)))) (λ i. f (Err (Label (event i)))) (f (Ok tt))
  unfolding stairs_of from_fields from_nesting from_slices from_counts from_labels choose
  chosen-stairs text events = by-stairs (not (sizes_hold text events)) (not (is_utf8 text)) (fields_of text events) (nest_of (tags_of events)) (slices_of text events) (counts_of events) (undefined_of text events)

pub stairs : (text events : List ℕ) → stairs_of text events ≡ check_of text events
unfolding check_of
stairs text events = chosen-stairs (λ c. c) text events

chosen : (f : Checked → ℕ) (text events : List ℕ) → f (check_of text events) ≡ choose text events (f (Err WrongLength)) (f (Err NotUtf8)) (λ i. f (Err (Field (event i)))) (λ i. f (Err (Nested (event i)))) (λ i. f (Err (Slice (event i)))) (λ i. f (Err (Count (event i)))) (λ i. f (Err (Label (event i)))) (f (Ok tt))
chosen f text events = ap f (sym (stairs text events)) ∙ chosen-stairs f text events

pub checks : (text events : List ℕ) {r : Checked} → r ≡ check_of text events → Checks text events r
checks text events p = record { answer = p; number = ap number_of p ∙ chosen number_of text events; place = ap place_of p ∙ chosen place_of text events }
