-- A clean state stays clean when a text is written, and when no buffer is touched. Assumes nothing.
use mathlib.Core.Path.{◌≡◌, ap}
use mathlib.Core.Bool.{Bool, true, false, cond}
use mathlib.Core.List.{List, [], ◌∷◌}
use mathlib.Core.Option.{Option}
use Prim.Native.Nat.{ℕ}
use Rattle.machine.specs.declared.Fixed.{Fixed}
use Rattle.machine.specs.State.{State, Media, Kept, start}
use Rattle.machine.specs.Buffers.{push_to, push, escaping_now, push_encoded, open_capture, take_from, take_capture, is_eol, last_or, newest_of, ending_text, end_line, ending_if_needed, end_line_if_needed}
use Rattle.machine_clean.specs.Clean.{Valid, All, empty, more, missing, Clean}
use Rattle.machine_clean.proofs.Valid.{none-valid, joined}
use Rattle.machine_clean.proofs.Texts.{ending-valid}
use Rattle.machine_clean.proofs.Encoded.{encoded}
use Rattle.machine_clean.proofs.Safe.{Safe, stops, goes}

pub start-clean : (fixed : Fixed) → Clean (start fixed)
unfolding start
start-clean fixed = record { page = none-valid; captures = empty; media = empty; setext = missing; kept = record { definitions = empty; footnotes = empty; calls = empty } }

-- ---- where no buffer is touched

abbrev pub Held : Type 0
Held = List ℕ × List (List ℕ) × List Media × Option (List ℕ) × Kept

abbrev pub buffers_of : State → Held
buffers_of s = (s.page, s.captures, s.media, s.waiting.setext, s.kept)

pub alike : {s : State} (u : State) → Clean s → buffers_of s ≡ buffers_of u → Clean u
alike u c e = record {
  page = rw (ap (λ (b : Held). b.0) e) at c.page;
  captures = rw (ap (λ (b : Held). b.1) e) at c.captures;
  media = rw (ap (λ (b : Held). b.2) e) at c.media;
  setext = rw (ap (λ (b : Held). b.3) e) at c.setext;
  kept = rw (ap (λ (b : Held). b.4) e) at c.kept;
}

-- ---- writing

pub pushed : {s : State} {b : List ℕ} → Clean s → Valid b → Clean (push b s)
unfolding push
pushed {s} {b} c v = on s.captures c.captures
  where
    on : (cs : List (List ℕ)) → All Valid cs → Clean (push_to cs b s)
    on [] empty = record { page = joined c.page v; captures = c.captures; media = c.media; setext = c.setext; kept = c.kept }
    on (x ∷ cs) (more p q) = record { page = c.page; captures = more (joined p v) q; media = c.media; setext = c.setext; kept = c.kept }

pub pushed-encoded : {s : State} {b : List ℕ} → Clean s → Valid b → Clean (push_encoded b s)
unfolding push_encoded
pushed-encoded {s} c v = pushed c (encoded (escaping_now s) v)

pub ended : {s : State} → Clean s → Clean (end_line s)
unfolding end_line
ended {s} c = pushed c (ending-valid s.fixed.ending)

pub needed-valid : (s : State) → Valid (ending_if_needed s)
unfolding ending_if_needed
needed-valid s = on (is_eol (last_or 10 (newest_of s.page s.captures)))
  where
    on : (t : Bool) → Valid (cond t [] (ending_text s))
    on true = none-valid
    on false = ending-valid s.fixed.ending

pub ended-if : {s : State} → Clean s → Clean (end_line_if_needed s)
unfolding end_line_if_needed
ended-if {s} c = pushed c (needed-valid s)

-- ---- captures

pub opened : {s : State} → Clean s → Clean (open_capture s)
unfolding open_capture
opened c = record { page = c.page; captures = more none-valid c.captures; media = c.media; setext = c.setext; kept = c.kept }

pub taken : {s : State} → Clean s → Safe (λ (b, u). Valid b × Clean u) (take_capture s)
unfolding take_capture
taken {s} c = on s.captures c.captures
  where
    on : (cs : List (List ℕ)) → All Valid cs → Safe (λ (b, u). Valid b × Clean u) (take_from cs s)
    on [] empty = stops
    on (x ∷ cs) (more p q) = goes (p, record { page = c.page; captures = q; media = c.media; setext = c.setext; kept = c.kept })
