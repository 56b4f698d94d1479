-- What a shape of crate shape says of the stacks' contents, and its laws. Assumes nothing.
use mathlib.Core.Path.{refl}
use mathlib.Core.Bool.{Bool, true, not, ◌&&◌}
use mathlib.Core.List.{List, [], ◌∷◌, ◌++◌}
use Prim.Native.Nat.{ℕ, zero, suc}
use lib.Dec.{T}
use lib.ListN.{get_or}
use Rattle.machine.specs.State.{State}
use Rattle.machine_shape.specs.Facts.{is_past, is_within}
use Rattle.machine_shape.specs.Shape.{Say, sure, kept, lost, still, Shape, Says, Over, Mean, idle, seq, equal, is_as, covers_all, covers}
use Rattle.machine_shape.specs.Acts.{Contract, with_waits, with_media}
use Rattle.machine_shape.specs.Fits.{is_sure, enough, meets}
use Rattle.machine_shape.proofs.Says.{both, each, mean-later, mean-less, mean-after}
use Rattle.machine_shape.proofs.Rel.{over-later, over-as}
use Rattle.machine_frame.proofs.Stacks.{Left, Above, above-later, above_as, above-left, above-after, Same, same-order, Grew, grew_none, grew-order}

-- newest first, the page last
abbrev pub buffers_of : State → List (List ℕ)
buffers_of s = s.captures ++ (s.page ∷ [])

-- of the facts that wait only whether a cell is past the columns, 8 and 9, matters here
abbrev pub cell_from : ℕ → List (State → Bool)
cell_from zero = (λ s. is_past s.table) ∷ (λ s. is_within s.table) ∷ []
cell_from (suc k) = (λ s. true) ∷ cell_from k

abbrev pub cell_facts : List (State → Bool)
cell_facts = cell_from 8

pub mean-cell : (s u : State) (k : ℕ) (xs : List Say) → Says (get_or xs k lost) (is_past s.table) (is_past u.table) → Says (get_or xs (suc k) lost) (is_within s.table) (is_within u.table) → Mean (cell_from k) xs s u
mean-cell s u zero [] p q = tt
mean-cell s u zero (x ∷ []) p q = (p, tt)
mean-cell s u zero (x ∷ y ∷ xs) p q = (p, (q, tt))
mean-cell s u (suc k) [] p q = tt
mean-cell s u (suc k) (sure ∷ xs) p q = (tt, mean-cell s u k xs p q)
mean-cell s u (suc k) (kept ∷ xs) p q = (λ t. t, mean-cell s u k xs p q)
mean-cell s u (suc k) (lost ∷ xs) p q = (tt, mean-cell s u k xs p q)

-- what was done from s to u
pub record Does (x : Shape) (s u : State) : Type 0 where
  pub buffers : Left Grew grew-order x.captures (buffers_of s) (buffers_of u)
  pub tight : Left Same same-order x.tight s.tight u.tight
  pub labels : Left Same same-order x.labels s.labels u.labels
  pub stack : Over x.stack s.media u.media
  pub waits : Mean cell_facts x.waits s u

-- what b had lies below what s has
pub record Holds (x : Shape) (b s : State) : Type 0 where
  pub buffers : Above Grew grew-order x.captures (buffers_of b) (buffers_of s)
  pub tight : Above Same same-order x.tight b.tight s.tight
  pub labels : Above Same same-order x.labels b.labels s.labels
  pub stack : Over x.stack b.media s.media
  pub waits : Mean cell_facts x.waits b s

pub holds_later : (x : Shape) (c : Contract) (b s u : State) → T (meets x c) → Holds x b s → Does c.does s u → Holds (seq x c.does) b u
holds_later x c b s u t h d =
    let p = each (enough x.captures c.does.captures ∷ enough x.tight c.does.tight ∷ enough x.labels c.does.labels ∷ covers_all x.waits c.asks_waits ∷ covers_all x.media c.asks_media ∷ []) t in
    record {
      buffers = above-later Grew grew-order x.captures c.does.captures (buffers_of b) (buffers_of s) (buffers_of u) p.0 h.buffers d.buffers;
      tight = above-later Same same-order x.tight c.does.tight b.tight s.tight u.tight p.1.0 h.tight d.tight;
      labels = above-later Same same-order x.labels c.does.labels b.labels s.labels u.labels p.1.1.0 h.labels d.labels;
      stack = over-later x.stack c.does.stack b.media s.media u.media h.stack d.stack;
      waits = mean-later b s u cell_facts x.waits c.does.waits h.waits d.waits;
    }

abbrev coverage : Shape → Shape → List Bool
coverage x y = equal x.captures y.captures ∷ equal x.tight y.tight ∷ equal x.labels y.labels ∷ is_as x.stack y.stack ∷ covers_all x.waits y.waits ∷ covers_all x.media y.media ∷ []

module _ (x y : Shape) (b s : State) (t : T (covers x y)) (h : Holds x b s) where
  pub holds-does : Does y b s
  holds-does =
      let p = each (coverage x y) t in
      record {
        buffers = above-left Grew grew-order x.captures y.captures (buffers_of b) (buffers_of s) p.0 h.buffers;
        tight = above-left Same same-order x.tight y.tight b.tight s.tight p.1.0 h.tight;
        labels = above-left Same same-order x.labels y.labels b.labels s.labels p.1.1.0 h.labels;
        stack = over-as x.stack y.stack b.media s.media p.1.1.1.0 h.stack;
        waits = mean-less b s cell_facts x.waits y.waits p.1.1.1.1.0 h.waits;
      }

  pub holds-less : Holds y b s
  holds-less =
      let p = each (coverage x y) t in
      record {
        buffers = above_as Grew grew-order x.captures y.captures (buffers_of b) (buffers_of s) p.0 h.buffers;
        tight = above_as Same same-order x.tight y.tight b.tight s.tight p.1.0 h.tight;
        labels = above_as Same same-order x.labels y.labels b.labels s.labels p.1.1.0 h.labels;
        stack = holds-does.stack;
        waits = holds-does.waits;
      }

-- nothing but what is idle was done behind it
pub holds_after : (x : Shape) (b s u : State) → Holds x b s → Does idle s u → Holds x b u
holds_after x b s u h d =
    record {
      buffers = above-after Grew grew-order x.captures (buffers_of b) (buffers_of s) (buffers_of u) h.buffers d.buffers;
      tight = above-after Same same-order x.tight b.tight s.tight u.tight h.tight d.tight;
      labels = above-after Same same-order x.labels b.labels s.labels u.labels h.labels d.labels;
      stack = rw d.stack h.stack;
      waits = mean-after b s u cell_facts x.waits h.waits d.waits;
    }

-- at the start
abbrev pub mild : List Say → Bool
mild xs = not (is_sure (get_or xs 8 lost)) && not (is_sure (get_or xs 9 lost))

says-mild : (a : Say) (x : Bool) → T (not (is_sure a)) → Says a x x
says-mild sure x t = absurd t
says-mild kept x t = λ i. i
says-mild lost x t = tt

pub holds-start : (xs : List Say) (ms : List Say) (s : State) → T (mild xs) → Holds (with_media still ms (with_waits xs idle)) s s
holds-start xs ms s t =
    let p = both (not (is_sure (get_or xs 8 lost))) (not (is_sure (get_or xs 9 lost))) t in
    record {
      buffers = (0, refl, grew_none (buffers_of s) (buffers_of s) refl);
      tight = (0, refl, refl);
      labels = (0, refl, refl);
      stack = refl;
      waits = mean-cell s s 8 xs (says-mild (get_or xs 8 lost) (is_past s.table) p.0) (says-mild (get_or xs 9 lost) (is_within s.table) p.1);
    }

pub holds-idle : (s : State) → Holds idle s s
holds-idle s = holds-start idle.waits idle.media s tt
