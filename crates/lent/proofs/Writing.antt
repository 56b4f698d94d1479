-- What a writer's methods give, and how writings go together. Assumes nothing.
use Rattle.std.proofs.Common.{◌≡◌, refl, sym, ◌∙◌, List, [], ◌∷◌, ◌++◌, ℕ, ◌≤◌, length}
use Rattle.lent.specs.Fill.{Filled}
use Rattle.lent.specs.declared.Writer.{Writer}
use Rattle.lent.specs.Writer.{Writes}
use Rattle.lent.specs.Private.{WritesAhead}
use Rattle.lent.proofs.Laws as Laws
use Rattle.lent.proofs.Ahead as Ahead
use Rattle.lent.proofs.Laws.{Left}

-- nothing written, and one writing after another
pub nothing : {w : Writer} → Writes [] w w
nothing {w} = record { filled = Laws.none w.bytes.now w.at; same = refl }

pub then : {s t : List ℕ} {u v w : Writer} → Writes s u v → Writes t v w → Writes (s ++ t) u w
then p q = record { filled = Laws.both p.filled q.filled; same = q.same ∙ p.same }

-- the same bytes by another name
pub by : {s t : List ℕ} {v w : Writer} → t ≡ s → Writes s v w → Writes t v w
by e p = rw e p

pub length-written : {s : List ℕ} {v w : Writer} → Writes s v w → length w.bytes.now ≡ length v.bytes.now
length-written p = Laws.length-filled p.filled

-- ---- a loop that writes: to write s from v on is all that is left of writing s₀ from u on

pub record Due (s₀ : List ℕ) (u : Writer) (s : List ℕ) (v : Writer) : Type 0 where
  pub rest : (w : Writer) → Writes s v w → Writes s₀ u w

pub all : {s : List ℕ} {v : Writer} → Due s v s v
all = record { rest = λ w h. h }

pub step : {s₀ s t r : List ℕ} {u v w : Writer} → r ≡ s ++ t → Due s₀ u r v → Writes s v w → Due s₀ u t w
step q due p = record { rest = λ w' h. due.rest w' (rw q (then p h)) }

pub done : {s₀ s : List ℕ} {u v : Writer} → s ≡ [] → Due s₀ u s v → Writes s₀ u v
done {v = v} q due = due.rest v (rw q nothing)

pub last : {s₀ s : List ℕ} {u v w : Writer} → Due s₀ u s v → Writes s v w → Writes s₀ u w
last {w = w} due p = due.rest w p

-- ---- bytes that are moved ahead: nothing was, or what follows covers them

pub ahead-end : {s : List ℕ} {v w : Writer} (n : ℕ) → n ≡ 0 → WritesAhead s n v w → Writes s v w
ahead-end n z a = record { filled = Ahead.ahead-end n z a.ahead; same = a.same }

pub ahead_more : {s t u : List ℕ} {v w x : Writer} {n : ℕ} → u ≡ s ++ t → WritesAhead s n v w → n ≤ length t → Writes t w x → Writes u v x
ahead_more e a h p = record { filled = Ahead.ahead_more e a.ahead h p.filled; same = p.same ∙ a.same }
