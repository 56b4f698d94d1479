-- Slices of the text, and captures opened and taken off. Assumes nothing.
use Rattle.std.proofs.Common.{if◌then◌else◌, ◌⊎◌, inl, inr, ◌≡◌, refl, sym, ap, ◌∙◌, Bool, true, false, ◌&&◌, List, [], ◌∷◌, ◌++◌, ℕ, suc, ◌-◌, ◌≤◌, ◌<◌, arith, leb-true, leb, length, take, drop}
use Prim.Native.String.{String}
use Rattle.lent.specs.Bytes.{bytes}
use Rattle.lent.proofs.Laws.{and_left, and_right}
use Rattle.utf8.specs.Utf8.{is_utf8}
use Rattle.encode_byte.specs.declared.Escaping.{Escaping}
use Rattle.encode.specs.Encode.{encode_of}
use Rattle.event.specs.declared.Event.{Event}
use Rattle.machine.specs.State.{State}
use Rattle.machine.specs.Outcome.{stop, go, ◌>>=◌}
use Rattle.machine.specs.Set.{set_captures}
use Rattle.machine.specs.Buffers.{push, escaping_now, open_capture, take_capture}
use Rattle.machine.specs.Turn.{Turn, span_of, slice_of, as_str, str_of, own_str}
use Rattle.machine.specs.Words as Words
use Rattle.machine.specs.Command.{Command, ◌▸◌, exec}
use Rattle.machine.specs.Words.{slice, buffer}
use Rattle.machine.proofs.Outcomes.{never, first_goes, joins}
use Rattle.state_buffers.specs.declared.Buffers.{Buffers}
use Rattle.state_buffers.specs.Stand as Stand
use Rattle.state_buffers.specs.Stand.{Stand}
use Rattle.machine_bounded.specs.Within.{one, within}
use Rattle.machine_bounded.proofs.Bounds.{done, fits}
use Rattle.state_context.specs.declared.Context.{Context}
use Rattle.state_context.specs.Rel.{Rel, Sees, Keeps, Takes, Begins, Ends, escaping_in}
use Rattle.state_context.proofs.Laws.{with_buffers, rel-buffers, pushed}
use Rattle.state_context.proofs.Constants.{escaping-told}

-- ---- the event's slice

cc-go : {A : Type 0} {a b : A} → go a ≡ go b → a ≡ b
cc-go p = cc

-- a test that is passed
pub passed : {A : Type 0} (t : Bool) {a b : A} → (if t then go a else stop) ≡ go b → (t ≡ true) × (a ≡ b)
passed true p = (refl, cc)
passed false p = never p

-- the bytes are the event's slice of the text
pub record Sliced (text : List ℕ) (e : Event) (b : List ℕ) : Type 0 where
  pub ordered : e.from.0 ≤ e.to.0
  pub inside : e.to.0 ≤ length text
  pub bytes : b ≡ take (e.to.0 - e.from.0) (drop e.from.0 text)

pub sliced : (text : List ℕ) (e : Event) (b : List ℕ) → str_of text (span_of e) ≡ go b → Sliced text e b
unfolding str_of slice_of as_str
sliced text e b p =
    let f = first_goes (slice_of text (span_of e)) as_str b p in
    let from = e.from.0 in
    let to = e.to.0 in
    let q = passed (leb from to && leb to (length text)) f.1 in
    let r = passed (is_utf8 f.0) f.2 in
    record {
      ordered = leb-true from to (and_left (leb from to) (leb to (length text)) q.0);
      inside = leb-true to (length text) (and_right (leb from to) (leb to (length text)) q.0);
      bytes = sym r.1 ∙ sym q.1;
    }

abbrev encoded : Turn → State → List ℕ → List ℕ
encoded t s b = encode_of (escaping_now s) b

is_slice : (t : Turn) (s : State) → within slice t s ≡ one true (own_str t >>= λ b. go (push (encoded t s b) s))
unfolding exec within
is_slice t s = ap (one true) (joins (own_str t) (encoded t s) (λ b. go (push b s)))

-- where the text has no such slice
pub no-slice : {text : List ℕ} {e : Event} {b : List ℕ} → (e.to.0 < e.from.0) ⊎ (length text < e.to.0) → Sliced text e b → ⊥
no-slice h k = elim h [ inl x ↦ omega (arith, k.ordered) | inr x ↦ omega (arith, k.inside) ]

module _ (text : List ℕ) (e : Event) where
  pub own-slice : (t : Turn) (b : List ℕ) → Sees text e t → own_str t ≡ go b → Sliced text e b
  own-slice t b v p = sliced text e b (rw (v.text-is, v.event-is) at p)

  module _ (d : Command) (f : Turn → State → List ℕ → List ℕ) (is : (t : Turn) (s : State) → within d t s ≡ one true (own_str t >>= λ b. go (push (f t s b) s))) where
    -- a command that appends what it makes of the event's slice: there is one, and this is appended
    owned : (t : Turn) (s u : State) → Sees text e t → within d t s ≡ go u → (b : List ℕ) × Sliced text e b × (push (f t s b) s ≡ u)
    owned t s u v p =
        let q = (done true (own_str t >>= λ b. go (push (f t s b) s)) u (rw (is t s) at p)).went in
        let g = first_goes (own_str t) (λ b. go (push (f t s b) s)) u q in
        (g.0, own-slice t g.0 v g.1, cc-go g.2)

    pub not-owned : {c : Context} {w o : List ℕ} → (e.to.0 < e.from.0) ⊎ (length text < e.to.0) → Keeps (Sees text e) d c w o c w o
    not-owned h = record { keeps = λ t b s u v x p. (let g = owned t s u v p in absurd (no-slice h g.1)) }

    pub owned-pushes : {c : Context} {w o : List ℕ} {y : Escaping} → y ≡ escaping_in c.word → (g : List ℕ) → ((t : Turn) (s : State) → Sees text e t → escaping_now s ≡ y → g ≡ f t s (take (e.to.0 - e.from.0) (drop e.from.0 text))) → {x : Buffers} {w' o' : List ℕ} → Stand.Keeps (push g) c.buffers w o x w' o'
        → Keeps (Sees text e) d c w o (with_buffers x c) w' o'
    owned-pushes a g i k = record {
      keeps = λ t b s u v y p.
          let q = owned t s u v p in
          let j : g ≡ f t s q.0 = i t s v (escaping-told a y) ∙ ap (f t s) (sym q.1.bytes) in
          let h : push g s ≡ u = ap (λ (l : List ℕ). push l s) j ∙ q.2 in
          rw (← h) (rel-buffers y (pushed g s) (k.keeps b s y.stand));
    }

  module _ {c : Context} {w o : List ℕ} where
    pub not-sliced : (e.to.0 < e.from.0) ⊎ (length text < e.to.0) → Keeps (Sees text e) slice c w o c w o
    not-sliced h = not-owned slice encoded is_slice h

    pub slices : {z : List ℕ} {y : Escaping} {x : Buffers} {w' o' : List ℕ} → z ≡ take (e.to.0 - e.from.0) (drop e.from.0 text) → y ≡ escaping_in c.word → Stand.Keeps (push (encode_of y z)) c.buffers w o x w' o'
        → Keeps (Sees text e) slice c w o (with_buffers x c) w' o'
    slices {z} {y} q a k = owned-pushes slice encoded is_slice a (encode_of y z) (λ t s v i. rw (i, q)) k

-- ---- captures

-- there was one to take off, and this is what is left
taken : (s u : State) → (take_capture s >>= λ (b, v). go v) ≡ go u → (d : List ℕ) × (ds : List (List ℕ)) × (s.captures ≡ d ∷ ds) × (set_captures ds s ≡ u)
unfolding take_capture
taken s u p = on s.captures refl
  where
    on : (cs : List (List ℕ)) → s.captures ≡ cs → (d : List ℕ) × (ds : List (List ℕ)) × (s.captures ≡ d ∷ ds) × (set_captures ds s ≡ u)
    on [] q = never (rw q at p)
    on (d ∷ ds) q = (d, ds, q, cc-go (rw q at p))

module _ {c : Context} {starts : List ℕ} where
  pub begins : {x : Buffers} {starts' : List ℕ} → Stand.Opens c.buffers starts x starts' → Begins buffer c starts (with_buffers x c) starts'
  unfolding exec within open_capture
  begins {x} k = record {
    begins = λ w o. record {
      opens = λ t s u v l r p.
          let d = done true (go (open_capture s)) u p in
          let q : open_capture s ≡ u = cc-go d.went in
          let n : suc (length s.captures) ≤ 64 = (fits (open_capture s) (rw (← q) at d.fits)).captures in
          rw (← q) (record {
            stand = k w o s (omega arith) r.stand;
            flags = r.flags;
            waits = r.waits;
            tight = r.tight;
            table = r.table;
            fixed = r.fixed;
          });
    };
  }

  pub ends : {x : Buffers} → Stand.Drops c.buffers starts x → Ends Words.drop c starts (with_buffers x c)
  unfolding exec within
  ends {x} k = record {
    ends = λ w o. record {
      takes = λ t s u v l r p.
          let f = taken s u (done true (take_capture s >>= λ (b, v). go v) u p).went in
          rw (← f.3) (record {
            stand = k w o f.0 f.1 s f.2 l r.stand;
            flags = r.flags;
            waits = r.waits;
            tight = r.tight;
            table = r.table;
            fixed = r.fixed;
          });
    };
  }

-- ---- what was captured, written

-- there was one to take off, and this is what becomes of it
written : (f : List ℕ → List ℕ) (s u : State) → (take_capture s >>= λ (b, v). go (push (f b) v)) ≡ go u → (d : List ℕ) × (ds : List (List ℕ)) × (s.captures ≡ d ∷ ds) × (push (f d) (set_captures ds s) ≡ u)
unfolding take_capture
written f s u p = on s.captures refl
  where
    on : (cs : List (List ℕ)) → s.captures ≡ cs → (d : List ℕ) × (ds : List (List ℕ)) × (s.captures ≡ d ∷ ds) × (push (f d) (set_captures ds s) ≡ u)
    on [] q = never (rw q at p)
    on (d ∷ ds) q = (d, ds, q, cc-go (rw q at p))

left : (t : List ℕ) (ds : List (List ℕ)) (s : State) {w o : List ℕ} {b : List ℕ} {c : Context} {x : Buffers} {w' o' : List ℕ} → Rel c w o b s → Stand x w' b o' (push t (set_captures ds s)) → Rel (with_buffers x c) w' o' b (push t (set_captures ds s))
left t ds s r k =
    let e = pushed t (set_captures ds s) in
    record { stand = k; flags = r.flags ∙ sym e.flags; waits = rw e.waiting r.waits; tight = rw e.tight r.tight; table = rw e.table r.table; fixed = r.fixed ∙ sym e.fixed }

module _ {View : Turn → Type 0} {c : Context} {starts w o w' o' : List ℕ} {x : Buffers} where
  pub taking : {d : Command} (f : List ℕ → List ℕ) → ((t : Turn) (s u : State) → View t → Rel c w o starts s → within d t s ≡ go u → (take_capture s >>= λ (b, v). go (push (f b) v)) ≡ go u)
      → Stand.Resumes f c.buffers starts w o x w' o' → Takes View d c w starts o (with_buffers x c) w' o'
  taking f e k = record {
    takes = λ t s u v l r p.
        let g = written f s u (e t s u v r p) in
        rw (← g.3) (left (f g.0) g.1 s r (k g.0 g.1 s g.2 l r.stand));
  }

  -- between two texts
  pub resumes : {p q : String} → Stand.Resumes (λ b. bytes p ++ b ++ bytes q) c.buffers starts w o x w' o' → Takes View (Words.resume p q) c w starts o (with_buffers x c) w' o'
  unfolding exec within
  resumes {p} {q} k = taking (λ b. bytes p ++ b ++ bytes q) (λ t s u v r e. (done true (take_capture s >>= λ (b, v). go (push (bytes p ++ b ++ bytes q) v)) u e).went) k

-- and then more
pub takes-seq : {View : Turn → Type 0} {d e : Command} {c r q : Context} {starts w o w' o' w'' o'' : List ℕ} → Takes View d c w starts o r w' o' → Keeps View e r w' o' q w'' o'' → Takes View (d ▸ e) c w starts o q w'' o''
unfolding within
takes-seq {d = d} {e = e} {starts = starts} k l = record {
  takes = λ t s u v n x p.
      let f = first_goes (within d t s) (λ y. within e t y) u p in
      l.keeps t starts f.0 u v (k.takes t s f.0 v n x f.1) f.2;
}
