-- Quiet commands leave the rest as it is. Assumes nothing.
use mathlib.Core.Path.{◌≡◌, refl, sym, ap, ◌∙◌}
use mathlib.Core.Bool.{Bool, true, false, ◌&&◌}
use mathlib.Core.List.{List, [], ◌∷◌}
use mathlib.Core.Option.{Option, none, some}
use Prim.Native.Nat.{ℕ, zero, suc, ◌-◌}
use native.Mathlib.Omega.{arith}
use lib.ListN.{length}
use Rattle.lent.proofs.Laws.{and_left, and_right}
use Rattle.character_reference.specs.Reference.{reference_for}
use Rattle.machine.specs.State.{State}
use Rattle.machine.specs.Outcome.{Outcome, stop, go, ◌>>=◌, need}
use Rattle.machine.specs.Set.{set_captures}
use Rattle.machine.specs.Buffers.{push, push_to, push_encoded, open_capture, take_capture, take_from}
use Rattle.machine.specs.Turn.{Turn, slice_of, span_of, as_str, own_str}
use Rattle.machine.specs.Text.{code_of}
use Rattle.machine.specs.Media.{newest_media, leave_alt}
use Rattle.machine.specs.Test.{test}
use Rattle.machine.proofs.Outcomes.{never}
use Rattle.machine.specs.Command.{Command, nothing, step, ◌▸◌, whether, missing_cells, Step, write, capture, setext, mode, wait, column, medium, retain, text_of, Capture, buffer, drop, resume, resume_code, capturing, Mode, set, leave_image, open_container, close_container, setting, Wait, keep_rank, forget_rank, seen_data, fences, count_fence, marker, reference, first, awaiting, Column, columns, no_columns, next_column, first_column, counting, perform, repeat}
use Rattle.machine_bounded.specs.Within.{one, in_order, within}
use Rattle.machine_bounded.proofs.Bounds.{done}
use Rattle.state_whole.specs.Quiet.{quiet_step, is_quiet, Rests}

-- ---- outcomes that leave the rest, where they go on

pub record Leaves (s : State) (o : Outcome State) : Type 0 where
  pub leaves : (u : State) → o ≡ go u → Rests s u

same : (s : State) → Rests s s
same s = record { media = refl; labels = refl; kept = refl; setext = refl }

to : (s v : State) → Rests s v → Leaves s (go v)
to s v r = record { leaves = λ u p. (let q : v ≡ u = cc in rw (← q) r) }

binds : {A : Type 0} (s : State) (x : Outcome A) (f : A → Outcome State) → ((a : A) → Leaves s (f a)) → Leaves s (x >>= f)
binds s stop f k = record { leaves = λ u p. never p }
binds s (go a) f k = k a

onward : {s v u : State} → Rests s v → Rests v u → Rests s u
onward p q = record { media = q.media ∙ p.media; labels = q.labels ∙ p.labels; kept = q.kept ∙ p.kept; setext = q.setext ∙ p.setext }

-- ---- pushes and captures

pushed-to : (cs : List (List ℕ)) (t : List ℕ) (s : State) → Rests s (push_to cs t s)
pushed-to [] t s = record { media = refl; labels = refl; kept = refl; setext = refl }
pushed-to (c ∷ cs) t s = record { media = refl; labels = refl; kept = refl; setext = refl }

pub pushed : (t : List ℕ) (s : State) → Rests s (push t s)
unfolding push
pushed t s = pushed-to s.captures t s

encoded : (t : List ℕ) (s : State) → Rests s (push_encoded t s)
unfolding push_encoded
encoded t s = pushed _ s

opened : (s : State) → Rests s (open_capture s)
unfolding open_capture
opened s = record { media = refl; labels = refl; kept = refl; setext = refl }

taken : (s : State) (f : List ℕ × State → Outcome State) → ((b : List ℕ) (cs : List (List ℕ)) → Leaves s (f (b, set_captures cs s))) → Leaves s (take_capture s >>= f)
unfolding take_capture
taken s f k = on s.captures
  where
    on : (cs : List (List ℕ)) → Leaves s (take_from cs s >>= f)
    on [] = record { leaves = λ u q. never q }
    on (c ∷ cs) = k c cs

-- ---- one after the other

chain : (s : State) (x : Outcome State) (f : State → Outcome State) → Leaves s x → ((v : State) → Leaves v (f v)) → Leaves s (x >>= f)
chain s stop f k l = record { leaves = λ u p. never p }
chain s (go v) f k l = record { leaves = λ u p. onward (k.leaves v refl) ((l v).leaves u p) }

repeats : (n : ℕ) (f : State → Outcome State) → ((v : State) → Leaves v (f v)) → (s : State) → Leaves s (repeat n f s)
repeats zero f k s = to s s (same s)
repeats (suc n) f k s = chain s (f s) (λ u. repeat n f u) (k s) (λ v. repeats n f k v)

either : (s : State) (x y : Outcome State) → Leaves s x → Leaves s y → (b : Bool) → Leaves s (elim b [ true ↦ x | false ↦ y ])
either s x y k l true = k
either s x y k l false = l

left : (s : State) → Leaves s (leave_alt s)
unfolding leave_alt
left s = binds s (newest_media s) _ (λ (m, ms). to s _ (record { media = refl; labels = refl; kept = refl; setext = refl }))

loud : false ≡ true → ⊥
loud p = let y : ◌≡◌ {A = ℕ} 0 1 = cc in omega arith

-- ---- steps

captured : (x : Capture) (s : State) → Leaves s (capturing x s)
captured buffer s = to s _ (opened s)
captured drop s = taken s _ (λ b cs. to s _ (record { media = refl; labels = refl; kept = refl; setext = refl }))
captured (resume before after) s = taken s _ (λ b cs. to s _ (onward (record { media = refl; labels = refl; kept = refl; setext = refl }) (pushed _ _)))
captured resume_code s = taken s _ (λ b cs. binds s (as_str (code_of s.table.aligns b)) _ (λ code. to s _ (onward (record { media = refl; labels = refl; kept = refl; setext = refl }) (pushed code _))))

moded : (x : Mode) (s : State) → Leaves s (setting x s)
moded (set flag x) s = to s _ (record { media = refl; labels = refl; kept = refl; setext = refl })
moded leave_image s = left s
moded (open_container x) s = to s _ (record { media = refl; labels = refl; kept = refl; setext = refl })
moded close_container s = to s _ (record { media = refl; labels = refl; kept = refl; setext = refl })

awaited : (x : Wait) (t : Turn) (s : State) → Leaves s (awaiting x t s)
awaited keep_rank t s = binds s (slice_of t.text (span_of t.event)) _ (λ b. to s _ (record { media = refl; labels = refl; kept = refl; setext = refl }))
awaited forget_rank t s = to s _ (record { media = refl; labels = refl; kept = refl; setext = refl })
awaited (seen_data x) t s = to s _ (record { media = refl; labels = refl; kept = refl; setext = refl })
awaited (fences x) t s = to s _ (record { media = refl; labels = refl; kept = refl; setext = refl })
awaited count_fence t s = binds s (need s.waiting.fences) _ (λ n. to s _ (record { media = refl; labels = refl; kept = refl; setext = refl }))
awaited (marker m) t s = to s _ (record { media = refl; labels = refl; kept = refl; setext = refl })
awaited reference t s = binds s (need s.waiting.marker) _ (λ m. binds s (own_str t) _ (λ b. binds s (need (reference_for s.fixed.names m b)) _ (λ c. to s _ (onward (record { media = refl; labels = refl; kept = refl; setext = refl }) (encoded c _)))))
awaited (first x) t s = to s _ (record { media = refl; labels = refl; kept = refl; setext = refl })

counted : (x : Column) (t : Turn) (s : State) → Leaves s (counting x t s)
counted columns t s = to s _ (record { media = refl; labels = refl; kept = refl; setext = refl })
counted no_columns t s = to s _ (record { media = refl; labels = refl; kept = refl; setext = refl })
counted next_column t s = to s _ (record { media = refl; labels = refl; kept = refl; setext = refl })
counted first_column t s = to s _ (record { media = refl; labels = refl; kept = refl; setext = refl })

performed : (x : Step) → quiet_step x ≡ true → (t : Turn) (s : State) → Leaves s (perform x t s)
performed (write x) h t s = binds s (text_of x t s) _ (λ b. to s _ (pushed b s))
performed (capture x) h t s = captured x s
performed (setext x) h t s = absurd (loud h)
performed (mode x) h t s = moded x s
performed (wait x) h t s = awaited x t s
performed (column x) h t s = counted x t s
performed (medium x) h t s = absurd (loud h)
performed (retain x) h t s = absurd (loud h)

-- ---- commands

alone : (s : State) (ok : Bool) (o : Outcome State) → Leaves s o → Leaves s (one ok o)
alone s ok o k = record { leaves = λ u p. k.leaves u (done ok o u p).went }

pub rests : (c : Command) → is_quiet c ≡ true → (t : Turn) (s : State) → Leaves s (within c t s)
unfolding within
rests nothing h t s = alone s true (go s) (to s s (same s))
rests (step x) h t s = alone s (in_order x s) (perform x t s) (performed x h t s)
rests (c ▸ d) h t s = chain s (within c t s) (λ u. within d t u) (rests c (and_left (is_quiet c) (is_quiet d) h) t s) (λ v. rests d (and_right (is_quiet c) (is_quiet d) h) t v)
rests (whether q c d) h t s =
    binds s (test q t s) (elim [ true ↦ within c t s | false ↦ within d t s ])
    (either s (within c t s) (within d t s) (rests c (and_left (is_quiet c) (is_quiet d) h) t s) (rests d (and_right (is_quiet c) (is_quiet d) h) t s))
rests (missing_cells c) h t s = binds s (need s.table.aligns) _ (λ aligns. repeats (length aligns - s.table.column) (λ u. within c t u) (λ v. rests c h t v) s)
