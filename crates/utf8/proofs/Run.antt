-- What is due along a text, whether or not it is valid. Assumes nothing.
use Rattle.std.specs.Prelude.{if◌then◌else◌}
use Rattle.std.proofs.Common.{◌≡◌, refl, Bool, true, false, List, [], ◌∷◌, ◌++◌, ℕ, ◌-◌, arith, T, leb, ltb, leb→le}
use Rattle.lent.specs.Bytes.{between}
use Rattle.utf8.specs.declared.Due.{Due}
use Rattle.utf8.specs.declared.Due.TheVariants.{First, More, Wrong}
use Rattle.utf8.specs.Table.{after_first, after_more, next, is_whole}
use Rattle.utf8.specs.Utf8.{run, is_continuation}
use Rattle.lent.proofs.Computed.{and_left, and_right, within, from, to}
use Rattle.utf8.proofs.Table.{is_sound, sound-first, low-wrong}

pub continuation-wrong : (b : ℕ) → T (is_continuation b) → Wrong ≡ after_first b
continuation-wrong b t =
    let h = from 0x80 0xBF b t in
    let k = to 0x80 0xBF b t in
    low-wrong b h (omega arith)

pub run-append : (d : Due) (s t : List ℕ) → run d (s ++ t) ≡ run (run d s) t
run-append d [] t = refl
run-append d (b ∷ s) t = run-append (next d b) s t

pub run-wrong : (s : List ℕ) → run Wrong s ≡ Wrong
run-wrong [] = refl
run-wrong (b ∷ s) = run-wrong s

pub never-whole : (s : List ℕ) → T (is_whole (run Wrong s)) → ⊥
never-whole s t = rw run-wrong at t

pub whole : (d : Due) → T (is_whole d) → d ≡ First
whole First t = refl
whole (More left lo hi) t = absurd t
whole Wrong t = absurd t

-- ---- only bytes from 80 to BF go on a character

sound-if : (t : Bool) (d e : Due) → T (is_sound d) → T (is_sound e) → T (is_sound (if t then d else e))
sound-if true d e p q = p
sound-if false d e p q = q

pub sound-next : (d : Due) (b : ℕ) → T (is_sound d) → T (is_sound (next d b))
sound-next First b p = sound-first b
sound-next (More left lo hi) b p =
    sound-if (between lo hi b) (after_more left) Wrong (sound-if (ltb left 2) First (More (left - 1) 0x80 0xBF) tt tt) tt
sound-next Wrong b p = tt

pub sound-run : (d : Due) (s : List ℕ) → T (is_sound d) → T (is_sound (run d s))
sound-run d [] p = p
sound-run d (b ∷ s) p = sound-run (next d b) s (sound-next d b p)

-- a byte that is due and stands there
pub taken : (left lo hi b : ℕ) (t : List ℕ) → T (is_whole (run (More left lo hi) (b ∷ t))) → T (between lo hi b) × T (is_whole (run (after_more left) t))
taken left lo hi b t h = go (between lo hi b) h
  where
    go : (u : Bool) → T (is_whole (run (if u then after_more left else Wrong) t)) → T u × T (is_whole (run (after_more left) t))
    go true h = (tt, h)
    go false h = absurd (never-whole t h)

module _ (left lo hi b : ℕ) (t : List ℕ) (p : T (is_sound (More left lo hi))) (h : T (is_whole (run (More left lo hi) (b ∷ t)))) where
  pub continues : T (is_continuation b)
  continues =
      let l = from lo hi b (taken left lo hi b t h).0 in
      let m = to lo hi b (taken left lo hi b t h).0 in
      let l' = leb→le 0x80 lo (and_left (leb 0x80 lo) (leb hi 0xBF) p) in
      let m' = leb→le hi 0xBF (and_right (leb 0x80 lo) (leb hi 0xBF) p) in
      within 0x80 0xBF b (omega arith) (omega arith)

-- a byte that goes on no character stands only where a first byte is due
pub due-first : (d : Due) (b : ℕ) (t : List ℕ) → T (is_sound d) → T (is_whole (run d (b ∷ t))) → is_continuation b ≡ false → d ≡ First
due-first First b t p h e = refl
due-first (More left lo hi) b t p h e = let v = continues left lo hi b t p h in absurd (rw e at v)
due-first Wrong b t p h e = absurd (never-whole t h)

-- where a first byte is due, none stands that goes on a character
pub no-continuation : (b : ℕ) (t : List ℕ) → T (is_whole (run First (b ∷ t))) → is_continuation b ≡ false
no-continuation b t h = go (is_continuation b) refl
  where
    go : (u : Bool) → is_continuation b ≡ u → u ≡ false
    go true q = absurd (never-whole t (rw (continuation-wrong b (rw q tt)) h))
    go false q = refl
