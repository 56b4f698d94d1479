-- Parts of the work bytes are pieces of its regions; one text behind another is one text. Assumes nothing.
use mathlib.Core.Path.{◌≡◌, sym, ◌∙◌}
use mathlib.Core.Bool.{Bool}
use mathlib.Core.List.{List, [], ◌∷◌, ◌++◌, append_assoc}
use Prim.Native.Nat.{ℕ, ◌+◌, ◌<◌}
use native.Mathlib.Omega.{arith}
use lib.ListN.{length, take, drop}
use Rattle.regions.specs.Sizes.{region_size}
use Rattle.machine.specs.State.{State}
use Rattle.machine.specs.Set.{set_captures}
use Rattle.machine.specs.Buffers.{push}
use Rattle.machine.specs.Turn.{url_of}
use Rattle.machine.specs.declared.Options.{Options}
use Rattle.state_buffers.specs.declared.Buffers.{Buffers}
use Rattle.state_buffers.specs.Stand.{Keeps}
use Rattle.write_held.specs.Parts.{PushesPart, PushesUrlPart}
use Rattle.state_whole.proofs.Parts.{front_long, front-is, behind-is}
use Rattle.state_whole.proofs.Shown.{part-of-region}
use Rattle.write_held.specs.Show.{as_is, Showing, ShowsText, ShowsPiece}

-- ---- what the functions promise

pub shows-short : {t : List ℕ} {b : Buffers} {work out : List ℕ} → length work < region_size → ShowsText t b work out b work out
shows-short h = record { shows = λ l. absurd (omega arith) }

pub shows-far : {f : List ℕ → List ℕ} {base place n : ℕ} {b : Buffers} {work out : List ℕ} → region_size < place → ShowsPiece f base place n b work out b work out
shows-far h = record { shows = λ c l lo hi i p. absurd (omega arith) }

module _ {b r : Buffers} {work out out' : List ℕ} where
  -- the captures come back before the bytes behind them
  pub shows-text : {t captures' : List ℕ} → Keeps (push t) b (take region_size work) out r captures' out' → length captures' ≡ length (take region_size work) → ShowsText t b work out r (captures' ++ drop region_size work) out'
  shows-text {captures' = captures'} k n = record {
    shows = λ l.
        let m = n ∙ front_long work l in
        record { keeps = rw (front-is captures' work m) k; behind = behind-is captures' work m 0 };
  }

  module _ {base place n : ℕ} {work' : List ℕ} where
    pub shows-piece : PushesPart (base + place) n b work out r work' out' → ShowsPiece as_is base place n b work out r work' out'
    shows-piece k = record {
      shows = λ c l lo hi i p.
          let g = k.pushes l (omega arith) (omega arith) in
          let e : take n (drop (base + place) work) ≡ c = sym (part-of-region base place n work i) ∙ p in
          record { keeps = rw e at g.0; behind = g.1 };
    }

    pub shows-url : {o : Options} {image : Bool} → PushesUrlPart o image (base + place) n b work out r work' out' → ShowsPiece (url_of o image) base place n b work out r work' out'
    shows-url k = record {
      shows = λ c l lo hi i p.
          let g = k.pushes l (omega arith) (omega arith) (omega arith) in
          let e : take n (drop (base + place) work) ≡ c = sym (part-of-region base place n work i) ∙ p in
          record { keeps = rw e at g.0; behind = g.1 };
    }

-- ---- one text behind another

both-in : (a c : List ℕ) (cs : List (List ℕ)) (s : State) → push c (push a (set_captures cs s)) ≡ push (a ++ c) (set_captures cs s)
unfolding push
both-in a c [] s = rw append_assoc
both-in a c (x ∷ xs) s = rw append_assoc

pub showing-both : {a c : List ℕ} {b x r : Buffers} {work out work' out' work'' out'' : List ℕ} → Showing a b work out x work' out' → Showing c x work' out' r work'' out'' → Showing (a ++ c) b work out r work'' out''
showing-both {a} {c} k l = record {
  keeps = record { keeps = λ starts s y. (rw (← both-in a c s.captures s) (l.keeps.keeps starts (push a s) (k.keeps.keeps starts s y))) };
  behind = l.behind ∙ k.behind;
}
