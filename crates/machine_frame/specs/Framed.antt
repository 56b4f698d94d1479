-- The frame of an element: what the machine leaves as it was from its enter to its exit. Assumes nothing.
use Rattle.std.specs.Prelude.{◌≡◌, Bool, true, not, List, [], ◌∷◌, ◌++◌, ℕ, zero, suc, drop}
use Rattle.lent.specs.Bytes.{one_of}
use Rattle.event.specs.declared.Event.{Event}
use Rattle.check_rules.specs.Elements.{Forest, list_of}
use Rattle.machine.specs.declared.Options.{Options}
use Rattle.machine.specs.Outcome.{go}
use Rattle.machine.specs.State.{State}
use Rattle.machine.specs.Turn.{Turn}
use Rattle.machine.specs.Buffers.{push}
use Rattle.machine.specs.Run.{pass_from}
use Rattle.machine_clean.specs.Turns.{through}
use Rattle.machine_shape.specs.Pass.{placed, behind, NoDefinition}
use Rattle.check_nesting.specs.Grammar.{call_label}

-- From s to u the newest buffer (a capture, or the page) has only grown; the other buffers, the containers, the labels of open footnotes and the media, but for the newest n, are as they were.
pub record Framed (n : ℕ) (s u : State) : Type 0 where
  pub grown : List ℕ
  pub page : u.page ≡ (push grown s).page
  pub captures : u.captures ≡ (push grown s).captures
  pub tight : u.tight ≡ s.tight
  pub labels : u.labels ≡ s.labels
  pub media : drop n u.media ≡ drop n s.media

-- Not framed are a footnote definition's prefix and the label in it: they leave behind the label, and the prefix the capture of the body, for the 63 around them.
-- With n = 0 nor are the parts of a link, image, call or definition, which note in the newest medium what they say: with n = 1 they are. A kind is a name, or one of 66 to 69: see crate nesting.
abbrev pub is_framed : (n : ℕ) → (kind : ℕ) → Bool
is_framed zero k = not (one_of (64 ∷ 65 ∷ 47 ∷ call_label ∷ 48 ∷ 49 ∷ 50 ∷ 51 ∷ 52 ∷ 54 ∷ 55 ∷ 56 ∷ []) k)
is_framed (suc n) k = not (one_of (64 ∷ 65 ∷ []) k)

-- THE FRAME LEMMA of the elements in a forest: in either pass, wherever they stand (inside a definition or not) and whatever the state s is there, a run to v over their events and those behind is in a state u between the two, and from s to u all is framed.
-- That there is a run is no part of it: the machine may stop, but not on a list that the checker passes (`runs`).
abbrev pub Frames : ℕ → Forest → Type 0
Frames n f =
    (definitions inside : Bool) (text : List ℕ) (o : Options) (p : ℕ) (before es : List Event) (rest : List Turn) (s v : State)
    → (inside ≡ true → NoDefinition f)
    → through (pass_from definitions text o inside p before (list_of f es) ++ rest) s ≡ go v
    → (u : State) × Framed n s u × (through (pass_from definitions text o inside (placed f p) (behind f before) es ++ rest) u ≡ go v)
