-- Calls that touch the context alone, as handlers of the whole, by what they are lent; and a label by its event. Assumes nothing.
use mathlib.Core.Path.{◌≡◌, refl}
use mathlib.Core.Bool.{true}
use mathlib.Core.List.{List}
use Prim.Native.Nat.{ℕ}
use lib.ListN.{length, take, take-append-drop}
use Rattle.regions.specs.Sizes.{region_size}
use Rattle.event.specs.declared.Event.{Event}
use Rattle.machine.specs.Turn.{Turn}
use Rattle.machine.specs.Media.{Id}
use Rattle.machine.specs.Command.{Command}
use Rattle.machine.specs.Words.{identify}
use Rattle.state_context.specs.declared.Context.{Context}
use Rattle.state_context.specs.Rel.{Sets, Begins, Ends, Takes}
use Rattle.state_context.proofs.Commands.{sets, begins}
use Rattle.state_media.specs.declared.Links.{Links}
use Rattle.state_media.specs.Links.{Identifies}
use Rattle.state_whole.specs.declared.Whole.{Whole}
use Rattle.state_whole.specs.Quiet.{is_quiet}
use Rattle.state_whole.specs.Whole.{World, Always, Roomy, Handles, Unlent, FromStarts, OnStarts, with_context, with_links, with_starts, with_bytes}
use Rattle.state_whole.proofs.Lifts.{lifts, lifts-takes, lifts-opens}
use Rattle.state_whole.proofs.Media.{identifies}
use Rattle.on_link.specs.Links.{Handled}

-- the captures put back before the bytes behind them
same_bytes : {text : List ℕ} {N : Whole → Type 0} {View : Turn → Type 0} {d : Command} {b r : Whole} {w : World} (starts : List ℕ) → Handles text N View d b w r (with_starts starts (with_bytes (take region_size w.work) w.out w))
    → Handles text N View d b w r (with_starts starts w)
same_bytes {w = w} starts k = let e = take-append-drop region_size w.work in rw e at k

takes-any : {View : Turn → Type 0} {d : Command} {c x : Context} {st : List ℕ} (w o : List ℕ) → Ends d c st x → Takes View d c w st o x w o
takes-any w o k = record { takes = λ t s u v l x p. (k.ends w o).takes t s u (record {}) l x p }

module _ {View : Turn → Type 0} {d : Command} {b : Whole} {x : Context} (q : is_quiet d ≡ true) where
  pub lifts-sets : Sets d b.context x → Unlent Always View d b (with_context x b)
  lifts-sets k = record { unlent = λ text w. same_bytes w.starts (lifts q (sets k) refl refl refl) }

  pub lifts-ends : {starts : List ℕ} → Ends d b.context starts x → FromStarts Roomy View d b starts (with_context x b)
  lifts-ends k = record { from-starts = λ text w i. same_bytes w.starts (lifts-takes q (takes-any (take region_size w.work) w.out k) refl i refl refl) }

  pub lifts-begins : {starts starts' : List ℕ} → Begins d b.context starts x starts' → length starts' ≡ length starts → OnStarts Always View d b starts (with_context x b) starts'
  lifts-begins {starts' = starts'} k n = record { on-starts = λ text w i. same_bytes starts' (lifts-opens q (begins k) refl i refl refl n) }

-- by the event alone: its text does not matter
pub identified : {id : Id} {e : Event} {b : Whole} {l : Links} → Identifies id (record { from = e.from; to = e.to }) b.links l → Unlent Always (Handled e) (identify id) b (with_links l b)
identified k = record {
  unlent = λ text w. record {
    handles = λ t s u v a y p. ((identifies {text₀ = t.text} k).unlent text w).handles t s u (record { text-is = refl; event-is = v.event-is }) a y p;
  };
}
