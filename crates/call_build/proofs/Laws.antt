-- What the build goes by. Assumes nothing.
use Rattle.std.proofs.Common.{Result, Ok, Err, ◌≡◌, refl, sym, subst, ◌∙◌, List, [], ◌∷◌, ℕ, arith, length, take, length-take}
use Rattle.event.specs.Event.{events_of}
use Rattle.check_rules.proofs.Meets.{yes-meets}
use Rattle.check_list.specs.declared.Refusal.{Refusal}
use Rattle.check_list.specs.Checked.{Checked, check_of}
use Rattle.machine.specs.declared.Options.{Options}
use Rattle.machine.specs.Run.{fixed_of, run_of}
use Rattle.machine_never.proofs.Whole.{ending-goes, begins, turns_go}
use Rattle.run_to_html.specs.Renders.{Runs, Answers, Renders}
use Rattle.run_answer.specs.declared.Full.{Full}
use Rattle.run_answer.specs.declared.Full.TheVariants as F
use Rattle.call_build_answer.specs.Rendered.{built_of, kept_of}
use Rattle.call_build_answer.specs.declared.Refusal.TheVariants as B
use Rattle.call_build_answer.specs.Built.{Built, checked_of, cleared_from, Leaves}
use Rattle.call_build_answer.proofs.Laws.{passed, wiped}
use Rattle.call_build.specs.Build.{Ends, Builds}
use Rattle.call_build.proofs.Limits.{no-limit}

-- on a checked note the run goes through all events, within the code's tables
pub runs : (text events : List ℕ) (o : Options) → check_of text events ≡ Ok tt → Runs text events o
runs text events o y =
    let m = (yes-meets text events).0 y in
    let e = ending-goes text events m o.ending 0 [] (events_of events) (record { long = refl; same = refl }) in
    let q = turns_go text events m o (fixed_of o e.0) in
    record { ending = e.0; found = e.1; begun = begins text events m o; last = q.0; goes = q.1; closed = q.2; clean = q.3; called = q.4 }

-- ---- refusals 1 to 7

pub refused : {text events out work out' work' : List ℕ} {o : Options} {t : Checked} {c : Refusal} {r : Built} → t ≡ checked_of text events (length work) → t ≡ Err c
    → Leaves (Err (B.Checked c)) 0 out work out' work' r
    → Builds text events o out work out' work' r
refused {text} {events} {out} {work} {out'} {o = o} {c = c} p q f =
    record {
      ended = subst (λ (x : Built). Ends text events o (length out) (length work) out' x) (sym f.answer) (sym p ∙ q, refl, refl, f.bytes ∙ wiped out);
      cleared = f.cleared;
    }

-- ---- the run's answer

-- what was rendered, with all cleared that is not page
module _ (text events out out₁ : List ℕ) (o : Options) (work : ℕ) (y : checked_of text events work ≡ Ok tt) (l : length out₁ ≡ length out) where
  ends : (r : Result ℕ Full) → Answers out₁ r (run_of text o (length out) (events_of events)) → Ends text events o (length out) work (cleared_from (kept_of r) out₁) (built_of r)
  ends (Ok n) a =
      let k : n ≡ length (take n out₁) = simp length-take (omega arith) in
      (y, take n out₁, a.0, no-limit text o (length out) (events_of events) (take n out₁) a.0, refl, k, rw (l, ← k))
  ends (Err (F.Work i)) a = (y, a, wiped out₁ ∙ rw l)
  ends (Err (F.Page i)) a = (y, a, wiped out₁ ∙ rw l)

pub built : {text events out work out₁ work₁ out₂ work₂ : List ℕ} {o : Options} {c : Checked} {r : Result ℕ Full} {b : Built} → c ≡ checked_of text events (length work) → c ≡ Ok tt
    → Renders text events o out out₁ r
    → Leaves (built_of r) (kept_of r) out₁ work₁ out₂ work₂ b
    → length out₁ ≡ length out
    → length work₁ ≡ length work
    → Builds text events o out work out₂ work₂ b
built {text} {events} {out} {work} {out₁} {out₂ = out₂} {o = o} {r = r} p q h f l m =
    let y = sym p ∙ q in
    let e = ends text events out out₁ o (length work) y l r (h.renders (runs text events o (passed text events (length work) y).1)) in
    record {
      ended =
          subst (λ (x : Built). Ends text events o (length out) (length work) out₂ x) (sym f.answer)
          (subst (λ (x : List ℕ). Ends text events o (length out) (length work) x (built_of r)) (sym f.bytes) e);
      cleared = f.cleared ∙ rw m;
    }
