-- Two results that meet the promise are equal, and on a checked note the answer is the run's. Assumes nothing.
use Rattle.std.proofs.Common.{◌≡◌, List, ◌++◌, ℕ, ◌-◌, ◌≤◌, eqb, length, if◌then◌else◌, Ok, Err, refl, sym, ap, ◌∙◌, le-ltb}
use Rattle.lent.specs.Fill.{zeros}
use Rattle.regions.specs.Sizes.{work_size}
use Rattle.event.specs.declared.EventIndex.{EventIndex}
use Rattle.event.specs.Event.{events_of}
use Rattle.check_rules.specs.Rules.{Meets}
use Rattle.check_rules.proofs.Meets.{yes-meets}
use Rattle.check_list.specs.declared.Refusal.{Refusal}
use Rattle.check_list.specs.Checked.{event}
use Rattle.check_list.specs.Checked as C
use Rattle.machine.specs.declared.Options.{Options}
use Rattle.machine.specs.Run.{Answer, page, refused, stopped, run_of}
use Rattle.call_build_answer.specs.declared.Refusal.TheVariants.{Checked, WorkFull, PageFull}
use Rattle.call_build_answer.specs.Built.{Built, checked_of}
use Rattle.call_build.specs.Build.{Ends, Builds}
use Rattle.call_build.proofs.Given.{Given, given}

-- ---- the answer and the output, as functions of the checker's answer and the run's; by `given` none stops

abbrev pub answer_of : Answer → Built
answer_of (page b) = Ok (length b)
answer_of (refused number place) = if eqb number 8 then Err (WorkFull (event place)) else Err (PageFull (event place))
answer_of (stopped place) = Err (PageFull (event place))

abbrev pub bytes_of : ℕ → Answer → List ℕ
bytes_of room (page b) = b ++ zeros (room - length b)
bytes_of room (refused number place) = zeros room
bytes_of room (stopped place) = zeros room

-- by the checker's answer first
abbrev pub after : {A : Type 0} → C.Checked → (Refusal → A) → A → A
after (Ok u) failed passed = passed
after (Err c) failed passed = failed c

same_index : (i : EventIndex) → i ≡ event i.0
same_index i = refl

module _ (text events : List ℕ) (o : Options) (room work : ℕ) (out' : List ℕ) where
  abbrev the-run : Answer
  the-run = run_of text o room (events_of events)

  answer : (r : Built) → Ends text events o room work out' r → r ≡ after (checked_of text events work) (λ c. Err (Checked c)) (answer_of the-run)
  answer (Err (Checked c)) e = rw e.0
  answer (Ok n) e = rw (e.0, e.2, e.5)
  answer (Err (WorkFull i)) e = rw (e.0, e.1) (ap (λ (j : EventIndex). Err (WorkFull j)) (same_index i))
  answer (Err (PageFull i)) e = rw (e.0, e.1) (ap (λ (j : EventIndex). Err (PageFull j)) (same_index i))

  bytes : (r : Built) → Ends text events o room work out' r → out' ≡ after (checked_of text events work) (λ c. zeros room) (bytes_of room the-run)
  bytes (Err (Checked c)) e = e.3 ∙ rw e.0
  bytes (Ok n) e = e.6 ∙ rw (e.0, e.2)
  bytes (Err (WorkFull i)) e = e.2 ∙ rw (e.0, e.1)
  bytes (Err (PageFull i)) e = e.2 ∙ rw (e.0, e.1)

module _ {text events : List ℕ} {o : Options} {out work : List ℕ} where
  -- two results that meet the promise are equal
  pub unique : {out₁ work₁ out₂ work₂ : List ℕ} {r s : Built} → Builds text events o out work out₁ work₁ r → Builds text events o out work out₂ work₂ s → (r ≡ s) × (out₁ ≡ out₂) × (work₁ ≡ work₂)
  unique {out₁} {out₂ = out₂} {r = r} {s} p q =
      let a = answer text events o (length out) (length work) out₁ r p.ended ∙ sym (answer text events o (length out) (length work) out₂ s q.ended) in
      let b = bytes text events o (length out) (length work) out₁ r p.ended ∙ sym (bytes text events o (length out) (length work) out₂ s q.ended) in
      (a, b, p.cleared ∙ sym q.cleared)

  -- on a note that meets the rules, with work bytes enough, the answer and the output are the run's, which is a page, 8 or 9
  pub exactly : {out' work' : List ℕ} {r : Built} → Meets text events → work_size ≤ length work → Builds text events o out work out' work' r
      → Given (run_of text o (length out) (events_of events))
      × (r ≡ answer_of (run_of text o (length out) (events_of events)))
      × (out' ≡ bytes_of (length out) (run_of text o (length out) (events_of events)))
  exactly {out'} {r = r} m h p =
      let c = (yes-meets text events).1 m in
      let y : checked_of text events (length work) ≡ Ok tt = rw (le-ltb (length work) work_size h) c in
      (given text events o (length out) c, answer text events o (length out) (length work) out' r p.ended ∙ rw y, bytes text events o (length out) (length work) out' r p.ended ∙ rw y)
