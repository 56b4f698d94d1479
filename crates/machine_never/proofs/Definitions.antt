-- The first pass: every turn's values are right, and each definition's label is kept. Assumes nothing.
use Rattle.std.specs.Prelude.{if◌then◌else◌}
use mathlib.Core.Path.{◌≡◌, refl, sym, ◌∙◌}
use mathlib.Core.Bool.{Bool, true, false, not, ◌||◌}
use mathlib.Core.List.{List, [], ◌∷◌}
use Prim.Native.Nat.{ℕ, suc, ◌+◌, ◌≤◌}
use native.Mathlib.Omega.{arith}
use lib.Dec.{T, eqb}
use borrow.Author.Tests.{ne_eqb}
use lib.ListN.{length}
use Rattle.lent.specs.Bytes.{one_of}
use Rattle.event.specs.declared.Event.{Event}
use Rattle.event.specs.Event.{is_enter, events_of}
use Rattle.check_nesting.specs.Grammar.{name_of, kind_count}
use Rattle.check_rules.specs.Elements.{Forest}
use Rattle.check_rules.specs.Rules.{Meets}
use Rattle.check_rules.proofs.Before.{clash}
use Rattle.machine.specs.declared.Options.{Options}
use Rattle.machine.specs.Outcome.{go}
use Rattle.machine.specs.State.{State, Media}
use Rattle.machine.specs.Set.{set_captures}
use Rattle.machine.specs.Turn.{Turn}
use Rattle.machine.specs.Media.{define}
use Rattle.machine.specs.Words as C
use Rattle.machine.specs.Command.{exec}
use Rattle.machine.specs.Handlers.{rows}
use Rattle.machine.specs.OnDefinition.{on_exit_definition}
use Rattle.machine_shape.specs.Kinds.{row_of, below}
use Rattle.machine_shape.specs.Grown.{Element, thin, thick}
use Rattle.machine_shape.specs.Pass.{placed, behind, turn_at}
use Rattle.machine_shape.proofs.Test.{computed, kind-below}
use Rattle.machine_shape.proofs.Calm.{calm, calm-closed}
use Rattle.machine_shape.proofs.Run.{Took}
use Rattle.machine_shape.proofs.Forest.{Kept}
use Rattle.machine_never.specs.Values.{Values, values, do_to}
use Rattle.machine_never.specs.Ghost.{effects_at, all_effects}
use Rattle.machine_never.specs.Here.{Here}
use Rattle.machine_never.specs.Known.{Known}
use Rattle.machine_never.proofs.Came.{via, via-take, via-newest}
use Rattle.machine_never.proofs.Inert.{enter-effects, exit-effects}
use Rattle.machine_never.proofs.Static.{behind-some}
use Rattle.machine_never.proofs.Count.{exits}
use Rattle.machine_never.proofs.Names.{undefining, unnoting, uncalling, enters, leaves}
use Rattle.machine_never.proofs.Readable.{name_below}
use Rattle.machine_never.proofs.Steady.{Steady, did, steady-turn}
use Rattle.machine_never.proofs.Turns.{Answers, enter-right, leave-right}
use Rattle.machine_never.proofs.Left.{defined-kept, noted-kept, calls-kept}

-- ---- what a definition holds asks little

calm-names : T (below kind_count (λ k. not (calm k) || not (one_of (23 ∷ 45 ∷ 46 ∷ 53 ∷ 62 ∷ 63 ∷ 65 ∷ []) (name_of k))))
calm-names = tt

calm-not : (k : ℕ) → 5 ≤ name_of k → T (calm k) → one_of (23 ∷ 45 ∷ 46 ∷ 53 ∷ 62 ∷ 63 ∷ 65 ∷ []) (name_of k) ≡ false
calm-not k l t = at (calm k) (one_of (23 ∷ 45 ∷ 46 ∷ 53 ∷ 62 ∷ 63 ∷ 65 ∷ []) (name_of k)) t (computed (λ k. not (calm k) || not (one_of (23 ∷ 45 ∷ 46 ∷ 53 ∷ 62 ∷ 63 ∷ 65 ∷ []) (name_of k))) kind_count calm-names k (kind-below k l))
  where
    at : (x y : Bool) → T x → T (not x || not y) → y ≡ false
    at true true i t = absurd t
    at true false i t = refl
    at false y i t = absurd i

-- an exit inside has none of these names
quiet-name : (a : Event) (f : Forest) (z : Event) → Element calm a f z → (is_enter z ≡ false) × (one_of (23 ∷ 45 ∷ 46 ∷ 53 ∷ 62 ∷ 63 ∷ 65 ∷ []) z.name ≡ false)
quiet-name a f z (thin m r c) =
    let n = r.2 in
    (r.1, rw (ne_eqb z.name 23 (λ e. absurd (omega arith)), ne_eqb z.name 45 (λ e. absurd (omega arith)), ne_eqb z.name 46 (λ e. absurd (omega arith)), ne_eqb z.name 53 (λ e. absurd (omega arith)), ne_eqb z.name 62 (λ e. absurd (omega arith)), ne_eqb z.name 63 (λ e. absurd (omega arith)), ne_eqb z.name 65 (λ e. absurd (omega arith))) refl)
quiet-name a f z (thick j k e l r w c) = (r.1, rw (r.2, e) (calm-not j l k))

-- ---- the end of a definition

pub media-there : (t : Turn) (v w : State) → exec (row_of 53).exit t v ≡ go w → (m : Media) × (ms : List Media) × (v.media ≡ m ∷ ms)
unfolding exec rows on_exit_definition define
media-there t v w h =
    via (exec C.drop t v) (λ u. exec C.keep_definition t u) h
    (λ u p q. via-take v u (λ (b, x). go x) p
    (λ c cs i. let j : set_captures cs v ≡ u = cc in
    via-newest u w _ q (λ m ms e y. (m, ms, rw (sym j) at e))))

module _ (text events : List ℕ) (meets : Meets text events) where
  abbrev All : List Event
  All = events_of events

  -- of the labels of definitions so far all are kept, and there is room for the others; no footnote has come yet
  pub record Defined (before es : List Event) (v : Values) : Type 0 where
    pub known : Known text 54 before v.defined
    pub room : length v.defined + exits 53 es ≤ 128
    pub unnoted : v.noted ≡ []
    pub uncalled : v.calls ≡ []

  pub record Outside (p : ℕ) (before es : List Event) (s : State) : Type 0 where
    pub steady : Steady text events meets p before es s
    pub defined : Defined before es (values s)

  -- inside of one that began behind other events
  pub record Inside (p₀ : ℕ) (before₀ : List Event) (s₀ : State) (p : ℕ) (before es : List Event) (s : State) : Type 0 where
    pub steady : Steady text events meets p before es s
    pub defined : Defined before₀ es (values s)

  fewer : (n : ℕ) (e : Event) (es : List Event) → exits n es ≤ exits n (e ∷ es)
  fewer n e es = at (is_enter e) (eqb e.name n)
    where
      at : (x y : Bool) → exits n es ≤ (if x then exits n es else (if y then suc (exits n es) else exits n es))
      at true y = omega arith
      at false true = omega arith
      at false false = omega arith

  module _ (o : Options) (Q : State → Type 0) where
    -- a turn that keeps no definition, no footnote and no call
    pub inside-turn : (before₀ : List Event) (p : ℕ) (before : List Event) (e : Event) (es : List Event) (s u : State) → Here All p before (e ∷ es) → T (all_effects undefining (effects_at e)) → T (all_effects unnoting (effects_at e)) → T (all_effects uncalling (effects_at e))
        → Took text o Q p before e es s u → Defined before₀ (e ∷ es) (values s) → Defined before₀ es (values u)
    inside-turn before₀ p before e es s u h c a b w d =
        let v = did text events meets o p before e es s u h w in
        let i = defined-kept text e (effects_at e) (values s) c in
        let k : Defined before₀ es (do_to text e (effects_at e) (values s)) = record { known = rw i d.known; room = rw i (omega (arith, d.room, fewer 53 e es)); unnoted = noted-kept text e (effects_at e) (values s) a ∙ d.unnoted; uncalled = calls-kept text e (effects_at e) (values s) b ∙ d.uncalled } in
        rw v k

    none-asked : (t : Turn) (s : State) (a : Event) (f : Forest) (before : List Event) → t.before ≡ behind f (a ∷ before) → one_of (23 ∷ 45 ∷ 46 ∷ 53 ∷ 62 ∷ 63 ∷ 65 ∷ []) t.event.name ≡ false → Answers t s
    none-asked t s a f before b n =
        record {
          looks = λ i. clash {t = one_of (23 ∷ 45 ∷ 46 ∷ 53 ∷ 62 ∷ 63 ∷ 65 ∷ []) t.event.name} (rw i refl) n;
          follows = rw b (behind-some f a before);
          link = λ i. clash {t = one_of (23 ∷ 45 ∷ 46 ∷ 53 ∷ 62 ∷ 63 ∷ 65 ∷ []) t.event.name} (rw i refl) n;
          image = λ i. clash {t = one_of (23 ∷ 45 ∷ 46 ∷ 53 ∷ 62 ∷ 63 ∷ 65 ∷ []) t.event.name} (rw i refl) n;
          defines = λ i. clash {t = one_of (23 ∷ 45 ∷ 46 ∷ 53 ∷ 62 ∷ 63 ∷ 65 ∷ []) t.event.name} (rw i refl) n;
          calls = λ i. clash {t = one_of (23 ∷ 45 ∷ 46 ∷ 53 ∷ 62 ∷ 63 ∷ 65 ∷ []) t.event.name} (rw i refl) n;
          notes = λ i. clash {t = one_of (23 ∷ 45 ∷ 46 ∷ 53 ∷ 62 ∷ 63 ∷ 65 ∷ []) t.event.name} (rw i refl) n;
        }

    pub inside-kept : (p₀ : ℕ) (before₀ : List Event) (s₀ : State) → Kept text o Q true calm (Inside p₀ before₀ s₀)
    inside-kept p₀ before₀ s₀ =
        record {
          closed = calm-closed;
          enters = λ p before e es s x h. enter-right text events meets o p before e es s h.steady x;
          entered = λ p before e es s u x n h t.
              let l = name_below text events meets p before e es h.steady.here in
              record { steady = steady-turn text events meets o p before e es s u h.steady.here h.steady t; defined = inside-turn before₀ p before e es s u h.steady.here (rw (enter-effects e e.name x refl) (enters e.name l).defines-not) (rw (enter-effects e e.name x refl) (enters e.name l).notes-not) (rw (enter-effects e e.name x refl) (enters e.name l).calls-not) t h.defined };
          leaves = λ p before a f z es s x n h.
              let q = quiet-name a f z x in
              leave-right text events meets o (placed f (suc p)) (behind f (a ∷ before)) z es s h.steady q.0 (none-asked (turn_at text o (placed f (suc p)) (behind f (a ∷ before)) z es) s a f before refl q.1);
          left = λ p before a f z es s u x n h t.
              let q = quiet-name a f z x in
              let l = name_below text events meets (placed f (suc p)) (behind f (a ∷ before)) z es h.steady.here in
              let m = split z.name q.1 in
              record { steady = steady-turn text events meets o (placed f (suc p)) (behind f (a ∷ before)) z es s u h.steady.here h.steady t; defined = inside-turn before₀ (placed f (suc p)) (behind f (a ∷ before)) z es s u h.steady.here (rw (exit-effects z z.name q.0 refl) ((leaves z.name l).defines-not m.0)) (rw (exit-effects z z.name q.0 refl) ((leaves z.name l).notes-not m.1)) (rw (exit-effects z z.name q.0 refl) ((leaves z.name l).calls-not m.2)) t h.defined };
          over = λ p before a f z es s d n r w c b h. clash refl d;
        }
      where
        split : (n : ℕ) → one_of (23 ∷ 45 ∷ 46 ∷ 53 ∷ 62 ∷ 63 ∷ 65 ∷ []) n ≡ false → (eqb n 53 ≡ false) × (one_of (63 ∷ 65 ∷ []) n ≡ false) × (eqb n 62 ≡ false)
        split n h = at (eqb n 23) (eqb n 45) (eqb n 46) (eqb n 53) (eqb n 62) (eqb n 63) (eqb n 65) h
          where
            at : (a b c d e f g : Bool) → (a || (b || (c || (d || (e || (f || (g || false))))))) ≡ false → (d ≡ false) × ((f || (g || false)) ≡ false) × (e ≡ false)
            at true b c d e f g h = clash refl h
            at false true c d e f g h = clash refl h
            at false false true d e f g h = clash refl h
            at false false false true e f g h = clash refl h
            at false false false false true f g h = clash refl h
            at false false false false false true g h = clash refl h
            at false false false false false false true h = clash refl h
            at false false false false false false false h = (refl, refl, refl)
