-- What a character reference stands for, by the marker that waits. Assumes nothing.
use Rattle.std.specs.Prelude.{◌⊎◌, Option as CodeOption, Some, None}
use mathlib.Core.Path.{◌≡◌, ap}
use mathlib.Core.Bool.{true}
use mathlib.Core.List.{List}
use mathlib.Core.Option.{Option, none, some}
use Prim.Native.Nat.{ℕ, ◌<◌}
use native.Mathlib.Omega.{arith}
use lib.ListN.{length}
use Rattle.encode_byte.specs.declared.Escaping.{Escaping}
use Rattle.encode.specs.Encode.{encode_of}
use Rattle.character_reference.specs.declared.Marker.{Marker}
use Rattle.character_reference.specs.declared.Names.{Names}
use Rattle.character_reference.specs.Reference.{reference_for}
use Rattle.event.specs.declared.Event.{Event}
use Rattle.machine.specs.declared.Fixed.{Fixed}
use Rattle.machine.specs.State.{State}
use Rattle.machine.specs.Outcome.{go, ◌>>=◌, need}
use Rattle.machine.specs.Set.{set_marker}
use Rattle.machine.specs.Buffers.{push, escaping_now, push_encoded}
use Rattle.machine.specs.Turn.{Turn, own_str}
use Rattle.machine.specs.Command.{exec}
use Rattle.machine.specs.Words.{reference}
use Rattle.machine.proofs.Outcomes.{never, first_goes}
use Rattle.machine_bounded.specs.Within.{within}
use Rattle.machine_bounded.proofs.Bounds.{done}
use Rattle.state_buffers.specs.declared.Buffers.{Buffers}
use Rattle.write_pieces.specs.Pieces.{PushesReference}
use Rattle.state_context.specs.declared.Context.{Context}
use Rattle.state_context.specs.Rel.{Rel, Sees, Keeps, MarkIs, ForgetsMarker, names_in, escaping_in}
use Rattle.state_context.proofs.Laws.{with_buffers, rel-buffers, pushed}
use Rattle.state_context.proofs.Constants.{escaping-told}
use Rattle.state_context.proofs.Slices.{Sliced, no-slice}
use Rattle.on_inline.proofs.Own.{slice_in, own}

-- what is needed is there
needed : {A : Type 0} (x : Option A) (a : A) → need x ≡ go a → x ≡ some a
needed none a p = never p
needed (some b) a p = cc

-- the names that the build goes by
chosen : {c : Context} {w o b : List ℕ} {s : State} → Rel c w o b s → names_in c.word ≡ s.fixed.names
chosen x = ap (λ (f : Fixed). f.names) x.fixed

-- a marker waits, there is a slice, and the two stand for a text, which is appended
record Referred (text : List ℕ) (e : Event) (s u : State) : Type 0 where
  pub mark : Marker
  pub value : List ℕ
  pub meaning : List ℕ
  pub waits : s.waiting.marker ≡ some mark
  pub slice : Sliced text e value
  pub stands-for : reference_for s.fixed.names mark value ≡ some meaning
  pub is : push (encode_of (escaping_now s) meaning) (set_marker none s) ≡ u

module _ (text : List ℕ) (e : Event) where
  went : (t : Turn) (s u : State) → Sees text e t → within reference t s ≡ go u → Referred text e s u
  unfolding exec within push_encoded
  went t s u v p =
      let q = (done true (need s.waiting.marker >>= λ m. own_str t >>= λ b. need (reference_for s.fixed.names m b) >>= λ c. go (push_encoded c (set_marker none s))) u p).went in
      let f = first_goes (need s.waiting.marker) (λ m. own_str t >>= λ b. need (reference_for s.fixed.names m b) >>= λ c. go (push_encoded c (set_marker none s))) u q in
      let g = first_goes (own_str t) (λ b. need (reference_for s.fixed.names f.0 b) >>= λ c. go (push_encoded c (set_marker none s))) u f.2 in
      let h = first_goes (need (reference_for s.fixed.names f.0 g.0)) (λ c. go (push_encoded c (set_marker none s))) u g.2 in
      record {
        mark = f.0;
        value = g.0;
        meaning = h.0;
        waits = needed s.waiting.marker f.0 f.1;
        slice = own t g.0 v g.1;
        stands-for = needed (reference_for s.fixed.names f.0 g.0) h.0 h.1;
        is = (let z = h.2 in cc);
      }

  module _ {c : Context} {w o : List ℕ} where
    pub no-reference : (e.to.0 < e.from.0) ⊎ (length text < e.to.0) → Keeps (Sees text e) reference c w o c w o
    no-reference h = record { keeps = λ t b s u v x p. absurd (no-slice h (went t s u v p).slice) }

    pub no-marker : {m : CodeOption Marker} → MarkIs c m → m ≡ None → Keeps (Sees text e) reference c w o c w o
    no-marker a q = record {
      keeps = λ t b s u v x p.
          let k = (went t s u v p).waits in
          let h : none ≡ s.waiting.marker = rw q at (a.mark-is w o b s x) in
          let z : ◌≡◌ {A = ℕ} 0 1 = cc in absurd (omega arith);
    }

    pub refers : {n : CodeOption Marker} {r : Context} {y : Escaping} {x : Buffers} {w' o' : List ℕ} {names : Names} {z : List ℕ} (m : Marker) → z ≡ slice_in text e → MarkIs c n → n ≡ Some m → names ≡ names_in c.word → ForgetsMarker c r → y ≡ escaping_in c.word → PushesReference names m z y r.buffers w o x w' o'
        → Keeps (Sees text e) reference c w o (with_buffers x r) w' o'
    refers {y = y} {names = names} {z = z} m i a q j f d k0 = record {
      keeps = λ t b s u v x p.
          let k = rw i at k0 in
          let g = went t s u v p in
          let h : some m ≡ s.waiting.marker = rw q at (a.mark-is w o b s x) in
          let i : m ≡ g.mark = (let j = g.waits in cc) in
          let n : reference_for names m (slice_in text e) ≡ some g.meaning = rw (j, chosen x, i, ← g.slice.bytes) g.stands-for in
          let l = encode_of y g.meaning in
          let z : push l (set_marker none s) ≡ u = rw (← escaping-told d x) g.is in
          let a = f.forgets w o b s x in
          rw (← z) (rel-buffers a (pushed l (set_marker none s)) ((k.pushes g.meaning n).keeps b (set_marker none s) a.stand));
    }
