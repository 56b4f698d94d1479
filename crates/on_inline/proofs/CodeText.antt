-- Code text taken off, as the table says. Assumes nothing.
use Rattle.std.specs.Prelude.{if◌then◌else◌}
use mathlib.Core.Path.{◌≡◌, sym, ◌∙◌}
use mathlib.Core.Bool.{Bool, true, false}
use mathlib.Core.List.{List, [], ◌∷◌}
use mathlib.Core.Option.{Option, none, some}
use Prim.Native.Nat.{ℕ}
use Rattle.event.specs.Event.{alignments_of}
use Rattle.machine.specs.State.{State}
use Rattle.machine.specs.Outcome.{go, ◌>>=◌}
use Rattle.machine.specs.Set.{set_captures}
use Rattle.machine.specs.Buffers.{push, take_from, take_capture}
use Rattle.machine.specs.Text.{code_of}
use Rattle.machine.specs.Turn.{as_str}
use Rattle.machine.specs.Command.{exec}
use Rattle.machine.specs.Words.{resume_code}
use Rattle.machine.proofs.Outcomes.{never, first_goes}
use Rattle.machine_bounded.specs.Within.{within}
use Rattle.machine_bounded.proofs.Bounds.{done}
use Rattle.state_buffers.specs.declared.Buffers.{Buffers}
use Rattle.state_buffers.specs.Stand.{Resumes}
use Rattle.state_resume.specs.Written.{code_in}
use Rattle.state_context.specs.declared.Context.{Context}
use Rattle.state_context.specs.declared.Table.{Table}
use Rattle.state_context.specs.Rel.{Any, Takes, enter_of, aligns_of}
use Rattle.state_context.proofs.Laws.{with_buffers}
use Rattle.state_context.proofs.Slices.{taking}
use Rattle.on_inline.proofs.Own.{as-str}

-- in a table is where there are columns
code-in : (t : Table) (a : Option (List ℕ)) (b : List ℕ) → aligns_of t ≡ a → code_of a b ≡ code_in t.inside b
unfolding code_of
code-in t a b p = on t.inside p
  where
    on : (x : Bool) → (if x then some (alignments_of (enter_of t.extra)) else none) ≡ a → code_of a b ≡ code_in x b
    on true p = rw (← p)
    on false p = rw (← p)

-- where it goes on the code is UTF-8, and is what is written
code-taken : (f : List ℕ → List ℕ) (s u : State) → ((b : List ℕ) → code_of s.table.aligns b ≡ f b)
    → (take_capture s >>= λ (b, v). as_str (code_of v.table.aligns b) >>= λ code. go (push code v)) ≡ go u → (take_capture s >>= λ (b, v). go (push (f b) v)) ≡ go u
unfolding take_capture
code-taken f s u e p = on s.captures p
  where
    on : (cs : List (List ℕ)) → (take_from cs s >>= λ (b, v). as_str (code_of v.table.aligns b) >>= λ code. go (push code v)) ≡ go u → (take_from cs s >>= λ (b, v). go (push (f b) v)) ≡ go u
    on [] p = never p
    on (d ∷ ds) p =
        let g = first_goes (as_str (code_of s.table.aligns d)) (λ code. go (push code (set_captures ds s))) u p in
        let h : f d ≡ g.0 = sym (e d) ∙ as-str (code_of s.table.aligns d) g.0 g.1 in
        rw h g.2

pub resumes-code : {c : Context} {starts w o w' o' : List ℕ} {x : Buffers} → Resumes (code_in c.table.inside) c.buffers starts w o x w' o' → Takes Any resume_code c w starts o (with_buffers x c) w' o'
unfolding exec within
resumes-code {c} k =
    taking (code_in c.table.inside)
    (λ t s u v r p. code-taken (code_in c.table.inside) s u (λ b. code-in c.table s.table.aligns b r.table.aligns) (done true (take_capture s >>= λ (b, v). as_str (code_of v.table.aligns b) >>= λ code. go (push code v)) u p).went)
    k
