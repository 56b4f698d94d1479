-- What the primitives that commands are made of do to the stacks. Assumes nothing.
use mathlib.Core.Path.{◌≡◌, refl, sym, ap, ◌∙◌}
use mathlib.Core.Bool.{Bool, true, false, cond}
use mathlib.Core.List.{List, [], ◌∷◌, ◌++◌}
use Prim.Native.Nat.{ℕ}
use lib.ListN.{drop, get_or}
use Rattle.machine.specs.Outcome.{need}
use Rattle.machine.specs.State.{State, Span, Media}
use Rattle.machine.specs.Set.{set_captures, set_media, set_calls, set_destination, add_definition, set_flag, alt}
use Rattle.machine.specs.Buffers.{push_to, push, push_encoded, take_from, take_capture, open_capture}
use Rattle.machine.specs.Turn.{Turn, str_of}
use Rattle.machine.specs.Media.{split_media, newest_media, on_newest, any_image, leave_alt, label_of, destination_of, seek, define}
use Rattle.machine.specs.Footnote.{split_labels, keep, call_index, count_at, call_note}
use Rattle.machine_clean.proofs.Safe.{Safe, stops, goes, chain, any}
use Rattle.machine_shape.specs.Facts.{is_past, is_within}
use Rattle.machine_shape.specs.Shape.{Say, lost, Stack, changed, gone, Shape, Says, Over, keep_all, idle}
use Rattle.machine_shape.specs.Acts.{with_captures, with_labels, with_waits, with_media, popped, down1, up1}
use Rattle.machine_shape.proofs.Says.{mean-after}
use Rattle.machine_frame.proofs.Stacks.{grew_none, grew-order}
use Rattle.machine_frame.proofs.Holds.{buffers_of, cell_facts, mean-cell, Does}

-- ---- where no stack is touched

pub unmoved : (xs : List Say) (s u : State) → buffers_of u ≡ buffers_of s → u.tight ≡ s.tight → u.labels ≡ s.labels → u.media ≡ s.media → Says (get_or xs 8 lost) (is_past s.table) (is_past u.table) → Says (get_or xs 9 lost) (is_within s.table) (is_within u.table) → Does (with_waits xs idle) s u
unmoved xs s u b t l m p q = record { buffers = grew_none (buffers_of s) (buffers_of u) b; tight = t; labels = l; stack = m; waits = mean-cell s u 8 xs p q }

pub does-after : (x : Shape) (s u v : State) → Does x s u → Does idle u v → Does x s v
does-after x s u v d e =
    record {
      buffers = grew-order.joins (drop x.captures.down (buffers_of s)) (drop x.captures.up (buffers_of u)) (drop x.captures.up (buffers_of v)) d.buffers (grew-order.drops x.captures.up (buffers_of u) (buffers_of v) e.buffers);
      tight = ap (drop x.tight.up) e.tight ∙ d.tight;
      labels = ap (drop x.labels.up) e.labels ∙ d.labels;
      stack = rw e.stack d.stack;
      waits = mean-after s u v cell_facts x.waits d.waits e.waits;
    }

-- ---- writing

pushed : (b : List ℕ) (s : State) → Does idle s (push b s)
unfolding push
pushed b s = at s.captures refl
  where
    at : (cs : List (List ℕ)) → s.captures ≡ cs → Does idle s (push_to cs b s)
    at [] e = record { buffers = (b, rw e refl); tight = refl; labels = refl; stack = refl; waits = mean-cell s s 8 keep_all (λ t. t) (λ t. t) }
    at (c ∷ cs) e = record { buffers = (b, rw e refl); tight = refl; labels = refl; stack = refl; waits = mean-cell s s 8 keep_all (λ t. t) (λ t. t) }

pub same : (s u : State) → buffers_of u ≡ buffers_of s → u.tight ≡ s.tight → u.labels ≡ s.labels → u.media ≡ s.media → u.table ≡ s.table → Does idle s u
same s u b t l m e = unmoved keep_all s u b t l m (rw e (λ i. i)) (rw e (λ i. i))

module _ (x : Shape) (s u : State) (d : Does x s u) where
  pub wrote : (b : List ℕ) → Does x s (push b u)
  wrote b = does-after x s u (push b u) d (pushed b u)

  pub wrote-encoded : (b : List ℕ) → Does x s (push_encoded b u)
  unfolding push_encoded
  wrote-encoded b = wrote _

-- ---- captures

pub opened : (s : State) → Does (with_captures up1 idle) s (open_capture s)
unfolding open_capture
opened s = record { buffers = grew_none (buffers_of s) (buffers_of s) refl; tight = refl; labels = refl; stack = refl; waits = mean-cell s s 8 keep_all (λ t. t) (λ t. t) }

-- the newest is gone
abbrev pub Took : State → State → Type 0
Took s u = (xs : List Say) → Says (get_or xs 8 lost) (is_past s.table) (is_past s.table) → Says (get_or xs 9 lost) (is_within s.table) (is_within s.table) → Does (with_captures down1 (with_waits xs idle)) s u

pub taken : (s : State) → Safe (λ (b, u). Took s u) (take_capture s)
unfolding take_capture
taken s = at s.captures refl
  where
    at : (cs : List (List ℕ)) → s.captures ≡ cs → Safe (λ (b, u). Took s u) (take_from cs s)
    at [] e = stops
    at (c ∷ cs) e =
        let took : Took s (set_captures cs s) = λ xs p q. record { buffers = grew_none (drop 1 (buffers_of s)) (cs ++ (s.page ∷ [])) (rw e refl); tight = refl; labels = refl; stack = refl; waits = mean-cell s (set_captures cs s) 8 xs p q } in
        goes {a = (c, set_captures cs s)} took

-- ---- media

pub newest : (s : State) → Safe (λ (m, ms). s.media ≡ m ∷ ms) (newest_media s)
unfolding newest_media
newest s = at s.media refl
  where
    at : (ms : List Media) → s.media ≡ ms → Safe (λ (m, rest). s.media ≡ m ∷ rest) (split_media ms)
    at [] e = stops
    at (m ∷ ms) e = goes e

pub with-media : (x : Shape) (k : Stack) (fs : List Say) (ms : List Media) (s u : State) → Does x s u → Over k s.media ms → Does (with_media k fs x) s (set_media ms u)
with-media x k fs ms s u d o = record { buffers = d.buffers; tight = d.tight; labels = d.labels; stack = o; waits = mean-after s u (set_media ms u) cell_facts x.waits d.waits (mean-cell u (set_media ms u) 8 keep_all (λ t. t) (λ t. t)) }

pub on-newest : (x : Shape) (fs : List Say) (f : Media → Media) (s u : State) → Does x s u → u.media ≡ s.media → Safe (Does (with_media changed fs x) s) (on_newest f u)
unfolding on_newest
on-newest x fs f s u d e = chain _ (newest u) (λ (m, ms) i. goes (with-media x changed fs (f m ∷ ms) s u d (m, f m, ms, sym e ∙ i, refl)))

pub left : (s : State) → Safe (Does idle s) (leave_alt s)
unfolding leave_alt
left s = chain _ (newest s) (λ (m, ms) i. goes (same s (set_flag alt (any_image ms) s) refl refl refl refl refl))

pub sought : (t : Turn) (fs : List Say) (s : State) → Safe (Does (with_media changed fs idle) s) (seek t s)
unfolding seek
sought t fs s =
    chain _ (newest s) (λ (m, ms) i.
    chain _ (any (label_of t m.reference_id m.label_id)) (λ b _.
    chain _ (any (destination_of s.kept.definitions m.destination b)) (λ d _. on-newest idle fs (set_destination d) s s (same s s refl refl refl refl refl) refl)))

pub defines : (t : Turn) (s : State) → Safe (Does popped s) (define t s)
unfolding define
defines t s =
    chain _ (newest s) (λ (m, ms) i.
    chain _ (any (need m.reference_id)) (λ p _.
    chain _ (any (str_of t.text p)) (λ b _. goes (does-after popped s (set_media ms s) (add_definition _ (set_media ms s)) (with-media idle gone _ ms s s (same s s refl refl refl refl refl) (m, i)) (same (set_media ms s) (add_definition _ (set_media ms s)) refl refl refl refl refl)))))

-- ---- footnotes

labelled : (ps : List Span) → Safe (λ (p, qs). ps ≡ p ∷ qs) (split_labels ps)
labelled [] = stops
labelled (p ∷ ps) = goes refl

pub keeps-body : (t : Turn) (s : State) → Safe (Does (with_captures down1 (with_labels down1 idle)) s) (keep t s)
unfolding keep
keeps-body t s =
    chain _ (taken s) (λ (body, u) h.
    let d : Does (with_captures down1 idle) s u = h keep_all (λ i. i) (λ i. i) in
    chain _ (labelled u.labels) (λ (p, ps) e.
    chain _ (any (str_of t.text p)) (λ b _. goes (record { buffers = d.buffers; tight = d.tight; labels = sym (ap (drop 1) (sym d.labels ∙ e)); stack = d.stack; waits = d.waits }))))

pub called : (t : Turn) (s : State) → Safe (Does popped s) (call_note t s)
unfolding call_note
called t s =
    chain _ (newest s) (λ (m, ms) i.
    chain _ (any (need m.label_id)) (λ p _.
    chain _ (any (str_of t.text p)) (λ label _.
    let u = set_calls (count_at (call_index label s.kept.calls) label s.kept.calls) (set_media ms s) in
    let d : Does popped s u = does-after popped s (set_media ms s) u (with-media idle gone _ ms s s (same s s refl refl refl refl refl) (m, i)) (same (set_media ms s) u refl refl refl refl refl) in
    goes (on u.flags.alt u _ d))))
  where
    on : (r : Bool) (u : State) (b : List ℕ) → Does popped s u → Does popped s (cond r u (push b u))
    on true u b d = d
    on false u b d = wrote popped s u d b
