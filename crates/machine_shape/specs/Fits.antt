-- The test: that commands go on from a shape, and that what an element may hold does. Assumes nothing.
use Rattle.std.specs.Prelude.{Bool, true, false, ◌&&◌, List, [], ◌∷◌, ℕ, ◌+◌, leb, get_or}
use Rattle.machine.specs.Test.{Test, is, is_tight, is_in_container, is_image, has_rank, has_seen_data, is_first_fence, is_fenced_once, is_fence_missing, is_first_marker, is_past_columns, is_ordered, is_loose, is_underlined_by_dashes, is_last, is_html_allowed, is_behind_fence, is_behind_definition, is_tight_paragraph, is_empty_item}
use Rattle.machine.specs.Command.{Command, nothing, step, ◌▸◌, whether, missing_cells}
use Rattle.check_nesting.specs.Grammar.{Item, one, opt, any, chain}
use Rattle.machine_shape.specs.Shape.{Say, sure, kept, lost, Moves, Stack, still, changed, over, gone, unknown, Shape, at, ats, seq, all_of, covers_all, covers}
use Rattle.machine_shape.specs.Acts.{Contract, with_waits, act}

-- ---- one step: a command, or a child with all that it holds

abbrev pub is_sure : Say → Bool
is_sure sure = true
is_sure kept = false
is_sure lost = false

-- never popped below its start, and at most n higher
abbrev pub flat : ℕ → Moves → Bool
flat n m = leb m.down m.up && leb m.up (m.down + n)

abbrev pub flat_stack : ℕ → Stack → Bool
flat_stack n still = true
flat_stack n changed = true
flat_stack n over = leb 1 n
flat_stack n gone = false
flat_stack n unknown = false

abbrev pub small : ℕ → Shape → Bool
small n x = all_of (flat n x.captures ∷ flat n x.tight ∷ flat n x.labels ∷ flat_stack n x.stack ∷ [])

-- enough was pushed for what is popped
abbrev pub enough : Moves → Moves → Bool
enough m n = leb (m.down + n.down) m.up

abbrev pub meets : Shape → Contract → Bool
meets x c =
    all_of
    (enough x.captures c.does.captures
    ∷ enough x.tight c.does.tight
    ∷ enough x.labels c.does.labels
    ∷ covers_all x.waits c.asks_waits
    ∷ covers_all x.media c.asks_media
    ∷ [])

-- each stack may be n higher than at the start
module _ (n : ℕ) where
  abbrev pub steps : Shape → Contract → (Shape → Bool) → Bool
  steps x c f = all_of (meets x c ∷ small n (seq x c.does) ∷ f (seq x c.does) ∷ [])

-- ---- commands

abbrev pub known : ℕ → Shape → Shape
known k x = with_waits (at k sure x.waits) x

abbrev pub waits_for : ℕ → Shape → Bool
waits_for k x = is_sure (get_or x.waits k lost)

-- both ways, unless a cell is known to be past the columns or not to be
unfoldable pub ways : Test → Shape → (Shape → Bool) → (Shape → Bool) → Bool
ways (is flag) x f g = f x && g x
ways is_tight x f g = f x && g x
ways is_in_container x f g = f x && g x
ways is_image x f g = is_sure (get_or x.media 0 lost) && (f x && g x)
ways has_rank x f g = f (known 0 x) && g x
ways has_seen_data x f g = waits_for 3 x && (f x && g x)
ways is_first_fence x f g = waits_for 4 x && (f x && g x)
ways is_fenced_once x f g = f x && g x
ways is_fence_missing x f g = f x && g x
ways is_first_marker x f g = waits_for 6 x && (f x && g x)
ways is_past_columns x f g = waits_for 7 x && elim (waits_for 8 x) [ true ↦ f x | false ↦ elim (waits_for 9 x) [ true ↦ g x | false ↦ f (known 8 x) && g (known 9 x) ] ]
ways is_ordered x f g = f x && g x
ways is_loose x f g = f x && g x
ways is_underlined_by_dashes x f g = f x && g x
ways is_last x f g = f x && g x
ways is_html_allowed x f g = f x && g x
ways is_behind_fence x f g = f x && g x
ways is_behind_definition x f g = f x && g x
ways is_tight_paragraph x f g = f x && g x
ways is_empty_item x f g = f x && g x

-- what is known of a cell is forgotten
abbrev pub any_cell : Shape → Shape
any_cell x = with_waits (ats (8 ∷ 9 ∷ []) lost x.waits) x

unfoldable pub goes : ℕ → Command → Shape → (Shape → Bool) → Bool
goes n nothing x f = f x
goes n (step a) x f = steps n x (act a) f
goes n (c ▸ d) x f = goes n c x (λ y. goes n d y f)
goes n (whether q c d) x f = ways q x (λ y. goes n c y f) (λ y. goes n d y f)
goes n (missing_cells c) x f = all_of (waits_for 7 x ∷ covers x (any_cell x) ∷ goes n c (any_cell x) (λ y. covers y (any_cell x)) ∷ f (any_cell x) ∷ [])

-- ---- what an element may hold: k gives the contract of a kind

abbrev pub every : (ℕ → Bool) → List ℕ → Bool
every f [] = true
every f (k ∷ ks) = f k && every f ks

abbrev pub looser : List Say → List Say → List Say
looser [] ys = []
looser (x ∷ xs) [] = []
looser (x ∷ xs) (sure ∷ ys) = x ∷ looser xs ys
looser (x ∷ xs) (kept ∷ ys) = x ∷ looser xs ys
looser (x ∷ xs) (lost ∷ ys) = lost ∷ looser xs ys

module _ (contracts : ℕ → Contract) (n : ℕ) where
  -- what no child of these kinds takes away
  abbrev pub through : List ℕ → Shape → Shape
  through [] x = x
  through (k ∷ ks) x = let y = through ks x in with_waits (looser y.waits (contracts k).does.waits) y

  abbrev pub good_chain : List ℕ → (Shape → Bool) → Shape → Bool
  good_chain [] f x = f x
  good_chain (k ∷ ks) f x = f x && steps n x (contracts k) (good_chain ks f)

  unfoldable pub good : List Item → Shape → (Shape → Bool) → Bool
  good [] x f = f x
  good (one ks ∷ items) x f = every (λ k. steps n x (contracts k) (λ y. good items y f)) ks
  good (opt ks ∷ items) x f = good items x f && every (λ k. steps n x (contracts k) (λ y. good items y f)) ks
  good (any ks ∷ items) x f = all_of (covers x (through ks x) ∷ every (λ k. steps n (through ks x) (contracts k) (λ y. covers y (through ks x))) ks ∷ good items (through ks x) f ∷ [])
  good (chain ks ∷ items) x f = good_chain ks (λ y. good items y f) x
