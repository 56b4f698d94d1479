-- Each dispatcher's promise as that of a turn. Assumes nothing.
use mathlib.Core.Path.{◌≡◌, refl, sym, ap, ◌∙◌}
use mathlib.Core.Bool.{Bool, true, false, not}
use mathlib.Core.List.{List, ◌++◌}
use Prim.Native.Nat.{ℕ, zero-le, ◌≤◌}
use lib.ListN.{length, take, drop}
use Rattle.regions.specs.Sizes.{region_size}
use Rattle.event.specs.declared.Event.{Event}
use Rattle.event.specs.Event.{is_enter, event_at}
use Rattle.machine.specs.declared.Options.{Options}
use Rattle.machine.specs.Turn.{Turn}
use Rattle.machine.specs.Command.{Command}
use Rattle.state_context.specs.declared.Context.{Context}
use Rattle.state_kept.specs.Kept.{Tables}
use Rattle.state_whole.specs.declared.Whole.{Whole}
use Rattle.state_whole.specs.Quiet.{is_quiet}
use Rattle.state_whole.specs.Whole.{World, Handles, with_context}
use Rattle.state_whole.proofs.Lifts.{needs-less}
use Rattle.dispatch_turns.specs.Turns.{command_for}
use Rattle.dispatch_turns.specs.Loud.{world, Turned}
use Rattle.dispatch_turns.proofs.Lifted.{lifts-turns}
use Rattle.dispatch_enter.specs.Enters as Enters
use Rattle.dispatch_media.specs.Enters as EntersWhole
use Rattle.dispatch_media.proofs.Enters as EnterLaws
use Rattle.dispatch_exit_inline.specs.Exits.{is_text, ExitsInline}
use Rattle.dispatch_exit_block.specs.Exits.{ExitsBlock}
use Rattle.dispatch_media.specs.Exits.{exits_whole, ExitsWhole}
use Rattle.dispatch_media.proofs.Names as ExitNames
use Rattle.dispatch_handle.specs.Handled.{Quietly, Wholly}

-- by what a turn shows
seen_as : {text : List ℕ} {N : Whole → Type 0} {View Wide : Turn → Type 0} {d : Command} {b r : Whole} {w w' : World} → ((t : Turn) → View t → Wide t) → Handles text N Wide d b w r w' → Handles text N View d b w r w'
seen_as f k = record { handles = λ t s u v a y p. k.handles t s u (f t v) a y p }

not-not : (x y : Bool) → x ≡ not y → y ≡ not x
not-not true true p = p
not-not true false p = refl
not-not false true p = refl
not-not false false p = p

-- ---- which is which

module _ (e : Event) {x r : Bool} (q : x ≡ is_enter e) (n : e.name ≤ 255) where
  pub whole-enter : x ≡ true → r ≡ EntersWhole.enters_whole e.name → r ≡ not (is_quiet (command_for e))
  whole-enter z p = not-not (is_quiet (command_for e)) r (EnterLaws.quiet_is e (sym q ∙ z) n ∙ ap not (sym p))

  pub whole-exit : x ≡ false → r ≡ exits_whole e.name → r ≡ not (is_quiet (command_for e))
  whole-exit z p = not-not (is_quiet (command_for e)) r (ExitNames.quiet_is e (sym q ∙ z) n ∙ ap not (sym p))

-- ---- the context alone

module _ {text events : List ℕ} {o : Options} {i : ℕ} {e : Event} {c r : Context} {captures starts out captures' starts' out' : List ℕ} where
  pub quiet-enter : is_enter e ≡ true → Enters.Enters e o.allow_dangerous_html c captures starts out r captures' starts' out' → Quietly text events o i e c captures starts out r captures' starts' out'
  quiet-enter z k = record { quietly = λ y. k.enters z text events o i y refl }

  module _ {l : Bool} (z : is_enter e ≡ false) (p : l ≡ is_text e.name) where
    pub quiet-text : l ≡ true → ExitsInline text events o i e c captures starts out r captures' starts' out' → Quietly text events o i e c captures starts out r captures' starts' out'
    quiet-text a k = record { quietly = λ y. k.exits y z (sym p ∙ a) }

    pub quiet-flow : l ≡ false → ExitsBlock text events i e c captures starts out r captures' starts' out' → Quietly text events o i e c captures starts out r captures' starts' out'
    quiet-flow a k = record { quietly = λ y. k.exits o y z (sym p ∙ a) }

-- ---- the whole

module _ {text : List ℕ} {o : Options} {e : Event} {b r : Whole} {x : Bool} (q : x ≡ is_enter e) (n : e.name ≤ 255) where
  pub wholly-enter : {work starts out starts' : List ℕ} {t : Tables} → x ≡ true → EntersWhole.Enters e b starts r starts' → Wholly text o e b (world work out starts t) r (world work out starts' t)
  wholly-enter {work} {out = out} {t = t} z k = record { wholly = λ l. seen_as (λ t v. record {}) ((k.enters text work out t).acts (sym q ∙ z) zero-le n l) }

  pub wholly-exit : {work starts out work' out' : List ℕ} {t t' : Tables} → x ≡ false → ExitsWhole text e o b work starts out t r work' out' t' → Wholly text o e b (world work out starts t) r (world work' out' starts t')
  wholly-exit z k = record { wholly = λ l. k.exits.acts (sym q ∙ z) zero-le n l }

-- ---- a turn

is-quiet : (e : Event) {x y : Bool} → x ≡ not (is_quiet (command_for e)) → x ≡ y → is_quiet (command_for e) ≡ not y
is-quiet e {x} w z = not-not x (is_quiet (command_for e)) w ∙ ap not z

module _ {text events : List ℕ} {o : Options} {i : ℕ} {e : Event} {b : Whole} {x : Bool} (p : e ≡ event_at events i) (h : x ≡ not (is_quiet (command_for e))) where
  -- the context's part of the work bytes is lent
  pub turned-quietly : {r : Context} {work starts out captures' starts' out' : List ℕ} {t : Tables} → x ≡ false → Quietly text events o i e b.context (take region_size work) starts out r captures' starts' out'
      → length captures' ≡ length (take region_size work) → length starts' ≡ length starts → Turned text events o i b (world work out starts t) (with_context r b) (world (captures' ++ drop region_size work) out' starts' t)
  turned-quietly {work = work} {starts} {out} {t = t} z k l m =
      let q = is-quiet e h z in
      record { turned = rw (← p) (needs-less (λ a. a.roomy) (lifts-turns {w = world work out starts t} q ((k.quietly (sym p)).dispatches q) refl refl refl l m)) }

  pub turned-wholly : {r : Whole} {w w' : World} → x ≡ true → Wholly text o e b w r w' → Turned text events o i b w r w'
  turned-wholly z k =
      record { turned = rw (← p) (seen_as (λ t v. record { text-is = v.text-is; options-are = v.options-are; event-is = v.event-is ∙ sym p }) (k.wholly (is-quiet e h z))) }
