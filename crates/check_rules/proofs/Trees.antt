-- A list that nests is a forest of its events, and each of its enters begins an element. Assumes nothing.
use Rattle.std.proofs.Common.{◌≡◌, refl, sym, ap, ap₂, ◌∙◌, Bool, true, false, ◌⊎◌, inl, inr, List, [], ◌∷◌, ℕ, zero, suc, ◌+◌, ◌/◌, ◌<◌, arith, length, take, drop, get_or}
use lib.Seq.{drop-nil}
use Rattle.event.specs.declared.Event.{Event}
use Rattle.event.specs.Event.{is_enter, event_of, event_at, events_in, events_of}
use Rattle.event.proofs.Laws.{kind-read, name-read, events-next}
use Rattle.check_nesting.specs.Tag.{Tag, enter, exit, tag_of, tags, tags_of}
use Rattle.check_nesting.specs.Nests as N
use Rattle.check_nesting.specs.Nests.{Nests}
use Rattle.check_rules.specs.Elements.{Forest, nil, element, list_of, Pair, Paired, ElementAt}
use Rattle.check_rules.proofs.Before.{clash}

-- ---- the tags are the events'

abbrev pub tag : Event → Tag
tag e = tag_of e.kind e.name

abbrev pub tagged : List Event → List Tag
tagged [] = []
tagged (e ∷ es) = tag e ∷ tagged es

same_tag : (b : List ℕ) → tag_of (get_or b 0 0) (get_or b 1 0) ≡ tag (event_of (take 20 b))
unfolding event_at
same_tag b = ap₂ tag_of (kind-read b 0) (name-read b 0)

pub same-tags : (n : ℕ) (b : List ℕ) → tags n b ≡ tagged (events_in n b)
unfolding events_in
same-tags zero b = refl
same-tags (suc n) b = ap₂ (λ (t : Tag) (ts : List Tag). t ∷ ts) (same_tag b) (same-tags n (drop 20 b))

-- ---- a forest of events

pub entered : (e : Event) (n : ℕ) → tag e ≡ enter n → (is_enter e ≡ true) × (e.name ≡ n)
entered e n = go (is_enter e) refl
  where
    go : (t : Bool) → is_enter e ≡ t → tag e ≡ enter n → (is_enter e ≡ true) × (e.name ≡ n)
    go true p q = let r : enter e.name ≡ enter n = rw p at q in (p, cc)
    go false p q = let r : exit e.name ≡ enter n = rw p at q in let z : ◌≡◌ {A = ℕ} 0 1 = cc in absurd (omega arith)

pub left : (e : Event) (n : ℕ) → tag e ≡ exit n → (is_enter e ≡ false) × (e.name ≡ n)
left e n = go (is_enter e) refl
  where
    go : (t : Bool) → is_enter e ≡ t → tag e ≡ exit n → (is_enter e ≡ false) × (e.name ≡ n)
    go false p q = let r : exit e.name ≡ exit n = rw p at q in (p, cc)
    go true p q = let r : enter e.name ≡ exit n = rw p at q in let z : ◌≡◌ {A = ℕ} 0 1 = cc in absurd (omega arith)

pub first : (es : List Event) (t : Tag) (ts : List Tag) → tagged es ≡ t ∷ ts → (e : Event) × (r : List Event) × (es ≡ e ∷ r) × (tag e ≡ t) × (tagged r ≡ ts)
first [] t ts p = let z : ◌≡◌ {A = ℕ} 0 1 = cc in absurd (omega arith)
first (e ∷ r) t ts p = (e, r, refl, cc, cc)

record Grown (es : List Event) (ts : List Tag) : Type 0 where
  pub forest : Forest
  pub rest : List Event
  pub same : es ≡ list_of forest rest
  pub tags-are : tagged rest ≡ ts
  pub paired : Paired forest

grown : (f : N.Forest) (es : List Event) (ts : List Tag) → tagged es ≡ N.events f ts → Grown es ts
grown N.nil es ts p = record { forest = nil; rest = es; same = refl; tags-are = p; paired = tt }
grown (N.tree n cs f) es ts p =
    let a = first es (enter n) (N.events cs (exit n ∷ N.events f ts)) p in
    let c = grown cs a.1 (exit n ∷ N.events f ts) a.4 in
    let z = first c.rest (exit n) (N.events f ts) c.tags-are in
    let g = grown f z.1 ts z.4 in
    let x = entered a.0 n a.3 in
    let y = left z.0 n z.3 in
    record {
      forest = element a.0 c.forest z.0 g.forest;
      rest = g.rest;
      same = a.2 ∙ ap (λ (l : List Event). a.0 ∷ l) (c.same ∙ ap (list_of c.forest) (z.2 ∙ ap (λ (l : List Event). z.0 ∷ l) g.same));
      tags-are = g.tags-are;
      paired = ((x.0, y.0, y.1 ∙ sym x.1), c.paired, g.paired);
    }

-- ---- the element that an enter begins

record Begun (a : Event) (behind : List Event) : Type 0 where
  pub inside : Forest
  pub exit : Event
  pub rest : List Event
  pub same : behind ≡ list_of inside (exit ∷ rest)
  pub pair : Pair a exit
  pub paired : Paired inside

-- it is one of the forest's, or stands behind it
begun : (f : Forest) (es : List Event) (k : ℕ) (a : Event) (behind : List Event) → Paired f → is_enter a ≡ true → drop k (list_of f es) ≡ a ∷ behind → Begun a behind ⊎ (j : ℕ) × (drop j es ≡ a ∷ behind)
begun nil es k a behind p h q = inr (k, q)
begun (element b f z g) es zero a behind (p, r, s) h q =
    let e : b ≡ a = cc in
    inl (record { inside = f; exit = z; rest = list_of g es; same = cc; pair = rw e at p; paired = r })
begun (element b f z g) es (suc k) a behind (p, r, s) h q =
    elim (begun f (z ∷ list_of g es) k a behind r h q) [
      | inl x ↦ inl x
      | inr (j, y) ↦ on j y (λ i u. begun g es i a behind s h u)
    ]
  where
    on : (j : ℕ) → drop j (z ∷ list_of g es) ≡ a ∷ behind → ((i : ℕ) → drop i (list_of g es) ≡ a ∷ behind → Begun a behind ⊎ (j : ℕ) × (drop j es ≡ a ∷ behind)) → Begun a behind ⊎ (j : ℕ) × (drop j es ≡ a ∷ behind)
    on zero y more = let e : z ≡ a = cc in clash h (rw e at p.1)
    on (suc j) y more = more j y

pub element-at : (events : List ℕ) (k : ℕ) → Nests (tags_of events) → k < length events / 20 → is_enter (event_at events k) ≡ true
    → (inside : Forest) × ElementAt (events_of events) k (event_at events k) inside
unfolding events_of
element-at events k w l h =
    let g = grown w.forest (events_of events) [] (sym (same-tags (length events / 20) events) ∙ w.same) in
    let e = none g.rest g.tags-are in
    let n = events-next events k l in
    let q : drop k (list_of g.forest []) ≡ event_at events k ∷ drop (k + 1) (events_of events) = sym (ap (drop k) (g.same ∙ ap (list_of g.forest) e)) ∙ n in
    elim (begun g.forest [] k (event_at events k) (drop (k + 1) (events_of events)) g.paired h q) [
      | inl x ↦ (x.inside, record { exit = x.exit; rest = x.rest; here = n ∙ ap (λ (r : List Event). event_at events k ∷ r) x.same; pair = x.pair; paired = x.paired })
      | inr (j, y) ↦ let z = drop-nil {A = Event} j in let u : ◌≡◌ {A = ℕ} 0 1 = cc in absurd (omega arith)
    ]
  where
    none : (es : List Event) → tagged es ≡ [] → es ≡ []
    none [] p = refl
    none (x ∷ es) p = let u : ◌≡◌ {A = ℕ} 0 1 = cc in absurd (omega arith)
