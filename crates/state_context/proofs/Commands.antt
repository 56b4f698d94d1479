-- How commands go together: one law for each way. Assumes nothing.
use mathlib.Core.Path.{◌≡◌, refl, sym, ◌∙◌}
use mathlib.Core.Bool.{Bool, true, false, not}
use mathlib.Core.List.{List, [], ◌∷◌}
use mathlib.Core.Option.{Option, none, some}
use Prim.Native.Nat.{ℕ}
use Prim.Native.String.{String}
use borrow.Author.Tests.{not-true, not-false}
use Rattle.lent.specs.Bytes.{bytes}
use Rattle.event.specs.declared.Event.{Event}
use Rattle.event.specs.Event.{named}
use Rattle.machine.specs.State.{State}
use Rattle.machine.specs.Outcome.{go, ◌>>=◌, need}
use Rattle.machine.specs.Buffers.{push}
use Rattle.machine.specs.Set.{Flag, alt, flag_of}
use Rattle.machine.specs.Turn.{Turn, just_before, is_after_definition}
use Rattle.machine.specs.Test.{Test, is, is_behind_fence, is_html_allowed, is_last, is_behind_definition, test}
use Rattle.machine.specs.Command.{Command, nothing, ◌▸◌, whether, exec}
use Rattle.machine.specs.Words.{put, tag}
use Rattle.machine.proofs.Outcomes.{never, first_goes}
use Rattle.machine_bounded.specs.Within.{within}
use Rattle.machine_bounded.proofs.Bounds.{done}
use Rattle.state_context.specs.declared.Context.{Context}
use Rattle.state_context.specs.Rel.{Rel, Any, Keeps, Sets, Pushes, PushesTag, Tells, FenceBefore, HtmlAllowed, IsLast, SeesEnding, Opens, Begins}

module _ {View : Turn → Type 0} where
  pub any : {d : Command} {c r : Context} {w o w' o' : List ℕ} → Keeps Any d c w o r w' o' → Keeps View d c w o r w' o'
  any k = record { keeps = λ t b s u v x p. k.keeps t b s u (record {}) x p }

  pub idle : {c : Context} {w o : List ℕ} → Keeps View nothing c w o c w o
  unfolding exec within
  idle = record { keeps = λ t b s u v x p. (let w = (done true (go s) u p).went in let q : s ≡ u = cc in rw (← q) x) }

  pub seq : {d e : Command} {c r q : Context} {w o w' o' w'' o'' : List ℕ} → Keeps View d c w o r w' o' → Keeps View e r w' o' q w'' o'' → Keeps View (d ▸ e) c w o q w'' o''
  unfolding exec within
  seq {d} {e} k l = record {
    keeps = λ t b s u v x p.
        let f = first_goes (within d t s) (λ y. within e t y) u p in
        l.keeps t b f.0 u v (k.keeps t b s f.0 v x f.1) f.2;
  }

  module _ {q : Test} {d e : Command} {c r : Context} {w o w' o' : List ℕ} {x : Bool} where
    pub whether-yes : Tells View q c x → x ≡ true → Keeps View d c w o r w' o' → Keeps View (whether q d e) c w o r w' o'
    unfolding exec within
    whether-yes a h k = record {
      keeps = λ t b s u v y p.
          let f = first_goes (test q t s) (elim [ true ↦ within d t s | false ↦ within e t s ]) u p in
          let z : f.0 ≡ true = a.tells t w o b s f.0 v y f.1 ∙ h in
          k.keeps t b s u v y (rw z at f.2);
    }

    pub whether-no : Tells View q c x → x ≡ false → Keeps View e c w o r w' o' → Keeps View (whether q d e) c w o r w' o'
    unfolding exec within
    whether-no a h k = record {
      keeps = λ t b s u v y p.
          let f = first_goes (test q t s) (elim [ true ↦ within d t s | false ↦ within e t s ]) u p in
          let z : f.0 ≡ false = a.tells t w o b s f.0 v y f.1 ∙ h in
          k.keeps t b s u v y (rw z at f.2);
    }

  pub puts : {text : String} {c r : Context} {w o w' o' : List ℕ} → Pushes (bytes text) c w o r w' o' → Keeps View (put text) c w o r w' o'
  unfolding exec within
  puts {text} k = record {
    keeps = λ t b s u v x p.
        let w = (done true (go (push (bytes text) s)) u p).went in
        let q : push (bytes text) s ≡ u = cc in
        rw (← q) (k.pushes b s x);
  }

-- ---- flags

pub told : {View : Turn → Type 0} {q : Test} {c : Context} {x : Bool} → Tells Any q c x → Tells View q c x
told a = record { tells = λ t w o b s y v r p. a.tells t w o b s y (record {}) r p }

pub flag-told : {f : Flag} {c : Context} {w o b : List ℕ} {s : State} {x : Bool} → Tells Any (is f) c x → (t : Turn) → Rel c w o b s → flag_of f s.flags ≡ x
unfolding test
flag-told {f} {w = w} {o = o} {b = b} {s = s} a t r = a.tells t w o b s (flag_of f s.flags) (record {}) r refl

-- a tag: none in an image's text
module _ {text : List ℕ} {c : Context} {w o : List ℕ} {x : Bool} (a : Tells Any (is alt) c x) where
  pub untagged : x ≡ true → PushesTag text c w o c w o
  untagged h = record { tags = λ name p. whether-yes a h idle }

  pub tagged : {r : Context} {w' o' : List ℕ} → x ≡ false → Pushes text c w o r w' o' → PushesTag text c w o r w' o'
  tagged h k = record { tags = λ name p. whether-no a h (puts (rw p k)) }

pub tag_of : {View : Turn → Type 0} {name : String} {c r : Context} {w o w' o' : List ℕ} → PushesTag (bytes name) c w o r w' o' → Keeps View (tag name) c w o r w' o'
tag_of {name = name} k = any (k.tags name refl)

-- ---- without a byte

module _ {View : Turn → Type 0} where
  pub sets : {d : Command} {c r : Context} {w o : List ℕ} → Sets d c r → Keeps View d c w o r w o
  sets {w = w} {o = o} k = any (k.sets w o)

-- a test that is made the other way round
pub unmet : {View : Turn → Type 0} {q : Test} {d e : Command} {c r : Context} {w o w' o' : List ℕ} {x : Bool} → Tells View q c x → not x ≡ true → Keeps View e c w o r w' o' → Keeps View (whether q d e) c w o r w' o'
unmet {x = x} a h k = whether-no a (not-true x h) k

pub met : {View : Turn → Type 0} {q : Test} {d e : Command} {c r : Context} {w o w' o' : List ℕ} {x : Bool} → Tells View q c x → not x ≡ false → Keeps View d c w o r w' o' → Keeps View (whether q d e) c w o r w' o'
met {x = x} a h k = whether-yes a (not-false x h) k

pub tells-fence : {c : Context} {x : Bool} → Tells (FenceBefore x) is_behind_fence c x
unfolding test
tells-fence = record { tells = λ t w o b s y v r p. fence-there (just_before t.before) refl y v p }
  where
    fence-there : {x : Bool} {t : Turn} (e : Option Event) → just_before t.before ≡ e → (y : Bool) → FenceBefore x t → (need (just_before t.before) >>= λ e. go (named (29 ∷ []) e)) ≡ go y → y ≡ x
    fence-there none q y v p = never (rw q at p)
    fence-there (some e) q y v p = let z : go (named (29 ∷ []) e) ≡ go y = rw q at p in let i : named (29 ∷ []) e ≡ y = cc in sym i ∙ v.fence-is e q

-- ---- by what a turn shows

pub narrow : {View Wide : Turn → Type 0} {d : Command} {c r : Context} {w o w' o' : List ℕ} → ((t : Turn) → View t → Wide t) → Keeps Wide d c w o r w' o' → Keeps View d c w o r w' o'
narrow f k = record { keeps = λ t b s u v x p. k.keeps t b s u (f t v) x p }

pub tells-html : {c : Context} {x : Bool} → Tells (HtmlAllowed x) is_html_allowed c x
unfolding test
tells-html = record { tells = λ t w o b s y v r p. (let q : t.options.allow_dangerous_html ≡ y = cc in sym q ∙ v.allowed-is) }

pub tells-last : {c : Context} {x : Bool} → Tells (IsLast x) is_last c x
unfolding test
tells-last = record { tells = λ t w o b s y v r p. (let q : t.last ≡ y = cc in sym q ∙ v.last-is) }

pub tells-behind : {c : Context} {text : List ℕ} {e : Event} {x : Bool} → Tells (SeesEnding text e x) is_behind_definition c x
unfolding test
tells-behind = record { tells = λ t w o b s y v r p. (let q : is_after_definition t.before ≡ y = cc in sym q ∙ v.behind-is) }

-- ---- one more open, last

module _ {View : Turn → Type 0} where
  pub begins : {d : Command} {c r : Context} {w o st st' : List ℕ} → Begins d c st r st' → Opens View d c w st o r w st' o
  begins {w = w} {o = o} k = record { opens = λ t s u v l x p. (k.begins w o).opens t s u (record {}) l x p }

  pub opens-last : {d e : Command} {c r q : Context} {w o st w' o' w'' o'' st'' : List ℕ} → Keeps View d c w o r w' o' → Opens View e r w' st o' q w'' st'' o'' → Opens View (d ▸ e) c w st o q w'' st'' o''
  unfolding within
  opens-last {d} {e} {st = st} k l = record {
    opens = λ t s u v n x p.
        let f = first_goes (within d t s) (λ y. within e t y) u p in
        l.opens t f.0 u v n (k.keeps t st s f.0 v x f.1) f.2;
  }
