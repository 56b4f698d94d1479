-- The law: a command that goes on does to the values what its effects say. Assumes nothing.
use Rattle.std.specs.Prelude.{if◌then◌else◌}
use mathlib.Core.Path.{◌≡◌, refl, sym, ap}
use mathlib.Core.Bool.{Bool, true, false, ◌&&◌}
use mathlib.Core.List.{List, [], ◌∷◌, ◌++◌}
use mathlib.Core.Option.{Option, none, some}
use Prim.Native.Nat.{ℕ, ◌-◌}
use lib.Dec.{leb}
use lib.ListN.{length, take, drop}
use Rattle.utf8.specs.Utf8.{is_utf8}
use Rattle.machine.specs.Outcome.{Outcome, stop, go, ◌>>=◌, need}
use Rattle.machine.specs.State.{State, Span, Media, Definition, Footnote}
use Rattle.machine.specs.Set.{set_captures, set_media}
use Rattle.machine.specs.Buffers.{push_to, push, take_from, take_capture}
use Rattle.machine.specs.Turn.{slice_of, as_str, str_of}
use Rattle.machine.specs.Media.{split_media, newest_media, on_newest, definition_labels}
use Rattle.machine.specs.Footnote.{split_labels}
use Rattle.machine.specs.Section.{footnote_labels}
use Rattle.machine.proofs.Outcomes.{never}
use Rattle.machine_never.specs.Values.{Values, values, text_of}

-- ---- what an outcome that goes on came from

-- a slice that is read is that of the text
pub read : (text : List ℕ) (p : Span) (b : List ℕ) → str_of text p ≡ go b → b ≡ text_of text p
unfolding str_of slice_of as_str
read text p b h = at (leb p.from p.to && leb p.to (length text)) h
  where
    utf : (y : Bool) (c : List ℕ) → ◌≡◌ {A = Outcome (List ℕ)} (if y then go c else stop) (go b) → b ≡ c
    utf true c q = cc
    utf false c q = never q

    at : (x : Bool) → ((if x then go (take (p.to - p.from) (drop p.from text)) else stop) >>= λ b. if is_utf8 b then go b else stop) ≡ go b → b ≡ text_of text p
    at true q = utf (is_utf8 (take (p.to - p.from) (drop p.from text))) (take (p.to - p.from) (drop p.from text)) q
    at false q = never q

-- ---- states with the same values

pub same-go : (w u : State) (v : Values) → ◌≡◌ {A = Outcome State} (go w) (go u) → values w ≡ v → values u ≡ v
same-go w u v p h = let e : w ≡ u = cc in rw (sym e) h

pub pushed : (b : List ℕ) (s : State) → values (push b s) ≡ values s
unfolding push
pushed b s = at s.captures
  where
    at : (cs : List (List ℕ)) → values (push_to cs b s) ≡ values s
    at [] = refl
    at (c ∷ cs) = refl

pub took : (s : State) (r : List ℕ × State) → take_capture s ≡ go r → (cs : List (List ℕ)) × (r.1 ≡ set_captures cs s)
unfolding take_capture
took s r h = at s.captures h
  where
    at : (cs : List (List ℕ)) → take_from cs s ≡ go r → (cs : List (List ℕ)) × (r.1 ≡ set_captures cs s)
    at [] q = never q
    at (c ∷ cs) q = let e : ◌≡◌ {A = List ℕ × State} (c, set_captures cs s) r = cc in (cs, ap (λ (x : List ℕ × State). x.1) (sym e))

pub took-values : (s : State) (r : List ℕ × State) → take_capture s ≡ go r → values r.1 ≡ values s
took-values s r h = let q = took s r h in rw q.1 refl

pub newest : (s : State) (r : Media × List Media) → newest_media s ≡ go r → s.media ≡ r.0 ∷ r.1
unfolding newest_media
newest s r h = at s.media h
  where
    at : (ms : List Media) → split_media ms ≡ go r → ms ≡ r.0 ∷ r.1
    at [] q = never q
    at (m ∷ ms) q = let e : ◌≡◌ {A = Media × List Media} (m, ms) r = cc in rw (sym e) refl

-- the newest medium is another
pub on-newest : (f : Media → Media) (s u : State) (v : Values) → on_newest f s ≡ go u → ((m : Media) (ms : List Media) → s.media ≡ m ∷ ms → values (set_media (f m ∷ ms) s) ≡ v) → values u ≡ v
unfolding on_newest newest_media
on-newest f s u v h k = at s.media refl h
  where
    at : (ms : List Media) → s.media ≡ ms → (split_media ms >>= λ (m, ms). go (set_media (f m ∷ ms) s)) ≡ go u → values u ≡ v
    at [] e q = never q
    at (m ∷ ms) e q = same-go (set_media (f m ∷ ms) s) u v q (k m ms e)

-- ---- labels that are kept

pub labels-add : (ds : List Definition) (d : Definition) → definition_labels (ds ++ (d ∷ [])) ≡ definition_labels ds ++ (d.label ∷ [])
labels-add [] d = refl
labels-add (x ∷ ds) d = ap (λ (l : List (List ℕ)). x.label ∷ l) (labels-add ds d)

pub notes-add : (fs : List Footnote) (f : Footnote) → footnote_labels (fs ++ (f ∷ [])) ≡ footnote_labels fs ++ (f.label ∷ [])
notes-add [] f = refl
notes-add (x ∷ fs) f = ap (λ (l : List (List ℕ)). x.label ∷ l) (notes-add fs f)

-- ---- the same, handed on

module _ {X A B : Type 0} {u : B} where
  pub via : (o : Outcome A) (f : A → Outcome B) → (o >>= f) ≡ go u → ((a : A) → o ≡ go a → f a ≡ go u → X) → X
  via stop f p k = never p
  via (go a) f p k = k a refl p

  pub via-need : (o : Option A) (f : A → Outcome B) → (need o >>= f) ≡ go u → ((a : A) → o ≡ some a → f a ≡ go u → X) → X
  via-need none f p k = never p
  via-need (some a) f p k = k a refl p

module _ {X : Type 0} (s u : State) where
  pub via-newest : (f : Media × List Media → Outcome State) → (newest_media s >>= f) ≡ go u → ((m : Media) (ms : List Media) → s.media ≡ m ∷ ms → f (m, ms) ≡ go u → X) → X
  unfolding newest_media
  via-newest f p k = at s.media refl p
    where
      at : (ms : List Media) → s.media ≡ ms → (split_media ms >>= f) ≡ go u → X
      at [] e q = never q
      at (m ∷ ms) e q = k m ms e q

  pub via-take : (f : List ℕ × State → Outcome State) → (take_capture s >>= f) ≡ go u → ((c : List ℕ) (cs : List (List ℕ)) → f (c, set_captures cs s) ≡ go u → X) → X
  unfolding take_capture
  via-take f p k = at s.captures p
    where
      at : (cs : List (List ℕ)) → (take_from cs s >>= f) ≡ go u → X
      at [] q = never q
      at (c ∷ cs) q = k c cs q

  pub via-label : (f : Span × List Span → Outcome State) → (split_labels s.labels >>= f) ≡ go u → ((p : Span) (ps : List Span) → s.labels ≡ p ∷ ps → f (p, ps) ≡ go u → X) → X
  via-label f p k = at s.labels refl p
    where
      at : (ls : List Span) → s.labels ≡ ls → (split_labels ls >>= f) ≡ go u → X
      at [] e q = never q
      at (l ∷ ls) e q = k l ls e q
