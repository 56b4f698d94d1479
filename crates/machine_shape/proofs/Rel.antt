-- Laws of shapes: one after the other, weakened, read off. Assumes nothing.
use mathlib.Core.Path.{◌≡◌, refl, sym, ap, ◌∙◌}
use mathlib.Core.List.{List, [], ◌∷◌}
use Prim.Native.Nat.{ℕ, suc, ◌+◌, ◌≤◌}
use native.Mathlib.Omega.{arith}
use lib.Dec.{T, leb, eqb→eq, leb→le}
use borrow.Author.Tests.{le-leb}
use lib.ListN.{length}
use Rattle.machine.specs.State.{State, Destination, no_destination, own, defined, Media}
use Rattle.machine_shape.specs.Facts.{wait_facts, media_facts, defined?, of_top, points_to}
use Rattle.machine_shape.specs.Shape.{Moves, Stack, still, changed, over, gone, unknown, Shape, Moved, Over, Mean, Rel, keep_all, idle, stacked, media_later, seq, covers_all, is_as, equal, covers, Low}
use Rattle.machine_shape.specs.Acts.{Contract, Ready}
use Rattle.machine_shape.specs.Fits.{flat, flat_stack, small, enough, meets}
use Rattle.machine_shape.specs.Kinds.{begun}
use Rattle.machine_shape.proofs.Says.{both, each, mean-later, mean-after, mean-less, mean-asked, mean-firm}

-- ---- the media

points-more : (n k : ℕ) (d : Destination) → n ≤ k → T (points_to n d) → T (points_to k d)
points-more n k no_destination h t = tt
points-more n k (own b) h t = tt
points-more n k (defined i) h t = let l : suc i ≤ n = leb→le (suc i) n t in rw (le-leb (suc i) k (omega arith)) tt

-- as long as the media are the same, so are their facts
pub media-same : (b s : State) → s.media ≡ b.media → defined? b ≤ defined? s → Mean media_facts keep_all b s
media-same b s e h = (rw e (λ t. t), (rw e (λ t. t), (rw e (λ t. t), (rw e (λ t. t), (rw e (λ t. t), (rw e (λ t. t), (rw e (λ t. t), (rw e (points b.media), (rw e (λ t. t), (rw e (λ t. t), tt))))))))))
  where
    points : (ms : List Media) → T (of_top (λ m. points_to (defined? b) m.destination) ms) → T (of_top (λ m. points_to (defined? s) m.destination) ms)
    points [] t = t
    points (m ∷ ms) t = points-more (defined? b) (defined? s) m.destination h t

pub over-later : (x y : Stack) (ls ms ns : List Media) → Over x ls ms → Over y ms ns → Over (stacked x y) ls ns
over-later still y ls ms ns h k = rw h at k
over-later changed still ls ms ns h k = rw (sym k) at h
over-later changed changed ls ms ns (b, m, r, p, q) (c, n, t, u, v) = (b, n, r, p, let e : r ≡ t = cc in v ∙ ap (λ (l : List Media). n ∷ l) (sym e))
over-later changed over ls ms ns h k = tt
over-later changed gone ls ms ns (b, m, r, p, q) (n, v) = (b, cc)
over-later changed unknown ls ms ns h k = tt
over-later over still ls ms ns h k = rw (sym k) at h
over-later over changed ls ms ns (m, p) (c, n, t, u, v) = (n, cc)
over-later over over ls ms ns h k = tt
over-later over gone ls ms ns (m, p) (n, v) = cc
over-later over unknown ls ms ns h k = tt
over-later gone still ls ms ns h k = rw (sym k) at h
over-later gone changed ls ms ns h k = tt
over-later gone over ls ms ns h k = tt
over-later gone gone ls ms ns h k = tt
over-later gone unknown ls ms ns h k = tt
over-later unknown y ls ms ns h k = tt

-- ---- one after the other

module _ (x y : Shape) (b s u : State) (h : Rel x b s) (k : Rel y s u) where
  media-later : (p q : Stack) → Over p b.media s.media → Over q s.media u.media → Mean media_facts (media_later p q x.media y.media) b u
  media-later still q m n = mean-later b s u media_facts x.media y.media h.media k.media
  media-later changed q m n = mean-later b s u media_facts x.media y.media h.media k.media
  media-later over still m n = mean-later b s u media_facts x.media y.media h.media k.media
  media-later over changed m n = mean-later b s u media_facts x.media y.media h.media k.media
  media-later over over m n = mean-later b s u media_facts x.media y.media h.media k.media
  media-later over gone m n = media-same b u (over-later over gone b.media s.media u.media m n) (omega (arith, h.defined, k.defined))
  media-later over unknown m n = mean-later b s u media_facts x.media y.media h.media k.media
  media-later gone q m n = mean-later b s u media_facts x.media y.media h.media k.media
  media-later unknown q m n = mean-later b s u media_facts x.media y.media h.media k.media

  pub rel-later : Rel (seq x y) b u
  rel-later =
      record {
        captures = omega (arith, h.captures, k.captures);
        tight = omega (arith, h.tight, k.tight);
        labels = omega (arith, h.labels, k.labels);
        stack = over-later x.stack y.stack b.media s.media u.media h.stack k.stack;
        defined = omega (arith, h.defined, k.defined);
        waits = mean-later b s u wait_facts x.waits y.waits h.waits k.waits;
        media = media-later x.stack y.stack h.stack k.stack;
      }

-- behind it nothing was done
pub rel-after : (x : Shape) (b s u : State) → Rel x b s → Rel idle s u → Rel x b u
rel-after x b s u h k =
    record {
      captures = omega (arith, h.captures, k.captures);
      tight = omega (arith, h.tight, k.tight);
      labels = omega (arith, h.labels, k.labels);
      stack = rw k.stack h.stack;
      defined = omega (arith, h.defined, k.defined);
      waits = mean-after b s u wait_facts x.waits h.waits k.waits;
      media = mean-after b s u media_facts x.media h.media k.media;
    }

-- ---- weakened

moved_as : (m n : Moves) (i j : ℕ) → T (equal m n) → Moved m i j → Moved n i j
moved_as m n i j t h = let e = eqb→eq (m.up + n.down) (n.up + m.down) t in omega arith

pub over-as : (x y : Stack) (ls ms : List Media) → T (is_as x y) → Over x ls ms → Over y ls ms
over-as still still ls ms t h = h
over-as still changed ls ms t h = absurd t
over-as still over ls ms t h = absurd t
over-as still gone ls ms t h = absurd t
over-as still unknown ls ms t h = absurd t
over-as changed still ls ms t h = absurd t
over-as changed changed ls ms t h = h
over-as changed over ls ms t h = absurd t
over-as changed gone ls ms t h = absurd t
over-as changed unknown ls ms t h = absurd t
over-as over y ls ms t h = absurd t
over-as gone y ls ms t h = absurd t
over-as unknown y ls ms t h = absurd t

pub rel-less : (x y : Shape) (b s : State) → T (covers x y) → Rel x b s → Rel y b s
rel-less x y b s t h =
    let p = each (equal x.captures y.captures ∷ equal x.tight y.tight ∷ equal x.labels y.labels ∷ is_as x.stack y.stack ∷ covers_all x.waits y.waits ∷ covers_all x.media y.media ∷ []) t in
    record {
      captures = moved_as x.captures y.captures (length b.captures) (length s.captures) p.0 h.captures;
      tight = moved_as x.tight y.tight (length b.tight) (length s.tight) p.1.0 h.tight;
      labels = moved_as x.labels y.labels (length b.labels) (length s.labels) p.1.1.0 h.labels;
      stack = over-as x.stack y.stack b.media s.media p.1.1.1.0 h.stack;
      defined = h.defined;
      waits = mean-less b s wait_facts x.waits y.waits p.1.1.1.1.0 h.waits;
      media = mean-less b s media_facts x.media y.media p.1.1.1.1.1.0 h.media;
    }

-- ---- read off

has-enough : (m n : Moves) (i j : ℕ) → T (enough m n) → Moved m i j → n.down ≤ j
has-enough m n i j t h = let e = leb→le (m.down + n.down) m.up t in omega arith

pub ready : (x : Shape) (c : Contract) (b s : State) → T (meets x c) → Rel x b s → Ready c s
ready x c b s t h =
    let p = each (enough x.captures c.does.captures ∷ enough x.tight c.does.tight ∷ enough x.labels c.does.labels ∷ covers_all x.waits c.asks_waits ∷ covers_all x.media c.asks_media ∷ []) t in
    record {
      captures = has-enough x.captures c.does.captures (length b.captures) (length s.captures) p.0 h.captures;
      tight = has-enough x.tight c.does.tight (length b.tight) (length s.tight) p.1.0 h.tight;
      labels = has-enough x.labels c.does.labels (length b.labels) (length s.labels) p.1.1.0 h.labels;
      waits = mean-asked b s wait_facts x.waits c.asks_waits p.1.1.1.0 h.waits;
      media = mean-asked b s media_facts x.media c.asks_media p.1.1.1.1.0 h.media;
    }

pub rel-begun : (c : Contract) (s : State) → Ready c s → Rel (begun c) s s
rel-begun c s h = record { captures = refl; tight = refl; labels = refl; stack = refl; defined = omega arith; waits = mean-firm s s wait_facts c.asks_waits h.waits; media = mean-firm s s media_facts c.asks_media h.media }

pub rel-idle : (s : State) → Rel idle s s
rel-idle s = record { captures = refl; tight = refl; labels = refl; stack = refl; defined = omega arith; waits = (λ t. t, (λ t. t, (λ t. t, (λ t. t, (λ t. t, (λ t. t, (λ t. t, (λ t. t, (λ t. t, (λ t. t, (λ t. t, tt))))))))))); media = media-same s s refl (omega arith) }

not-higher : (n k : ℕ) (m : Moves) (i j : ℕ) → T (flat n m) → Moved m i j → i ≤ k → j ≤ k + n
not-higher n k m i j t h l = let p = both (leb m.down m.up) (leb m.up (m.down + n)) t in let e = leb→le m.up (m.down + n) p.1 in omega arith

media-low : (n k : ℕ) (x : Stack) (ls ms : List Media) → T (flat_stack n x) → Over x ls ms → length ls ≤ k → length ms ≤ k + n
media-low n k still ls ms t h l = rw h (omega arith)
media-low n k changed ls ms t (b, m, r, p, q) l = let e : length ls ≡ suc (length r) = ap length p in rw q (omega arith)
media-low n k over ls ms t (m, p) l = let e = leb→le 1 n t in rw p (omega arith)
media-low n k gone ls ms t h l = absurd t
media-low n k unknown ls ms t h l = absurd t

pub low : (n k : ℕ) (x : Shape) (b s : State) → T (small n x) → Rel x b s → Low k b → Low (k + n) s
low n k x b s t h l =
    let p = each (flat n x.captures ∷ flat n x.tight ∷ flat n x.labels ∷ flat_stack n x.stack ∷ []) t in
    record {
      captures = not-higher n k x.captures (length b.captures) (length s.captures) p.0 h.captures l.captures;
      tight = not-higher n k x.tight (length b.tight) (length s.tight) p.1.0 h.tight l.tight;
      media = media-low n k x.stack b.media s.media p.1.1.1.0 h.stack l.media;
      labels = not-higher n k x.labels (length b.labels) (length s.labels) p.1.1.0 h.labels l.labels;
    }
