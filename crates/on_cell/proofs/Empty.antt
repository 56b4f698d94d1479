-- The end of an empty cell: two texts as one. Assumes nothing.
use mathlib.Core.Path.{◌≡◌, refl, sym, ap, ◌∙◌}
use mathlib.Core.Bool.{Bool, true, false}
use mathlib.Core.List.{List, [], ◌∷◌, ◌++◌, append_assoc}
use Prim.Native.Nat.{ℕ}
use Prim.Native.String.{String}
use Rattle.lent.specs.Bytes.{bytes}
use Rattle.machine.specs.State.{State}
use Rattle.machine.specs.Outcome.{go}
use Rattle.machine.specs.Buffers.{push}
use Rattle.machine.specs.Set.{head, set_page, set_captures}
use Rattle.machine.specs.Turn.{Turn}
use Rattle.machine.specs.Test.{is, test}
use Rattle.machine.specs.Command.{Command, ◌▸◌, whether, exec}
use Rattle.machine.specs.Words.{put}
use Rattle.machine.proofs.Outcomes.{first_goes}
use Rattle.machine_bounded.specs.Within.{within}
use Rattle.machine_bounded.proofs.Bounds.{done}
use Rattle.state_buffers.proofs.Laws.{push-nil, push-cons}
use Rattle.state_context.specs.declared.Context.{Context}
use Rattle.state_context.specs.Rel.{Any, Keeps, Pushes, Tells}
use Rattle.state_context.proofs.Laws.{pushed}
use Rattle.state_context.proofs.Commands.{flag-told}
use Rattle.on_cell.specs.Private.{closing_cell}

push-join : (a b : List ℕ) (s : State) → push b (push a s) ≡ push (a ++ b) s
push-join a b s = on s.captures refl
  where
    on : (cs : List (List ℕ)) → s.captures ≡ cs → push b (push a s) ≡ push (a ++ b) s
    on [] e = ap (push b) (push-nil a s e) ∙ push-nil b (set_page (s.page ++ a) s) e ∙ ap (λ (x : List ℕ). set_page x s) (append_assoc s.page a b) ∙ sym (push-nil (a ++ b) s e)
    on (c ∷ cs) e =
        ap (push b) (push-cons a s c cs e) ∙ push-cons b (set_captures ((c ++ a) ∷ cs) s) (c ++ a) cs refl ∙ ap (λ (x : List ℕ). set_captures (x ∷ cs) s) (append_assoc c a b)
        ∙ sym (push-cons (a ++ b) s c cs e)

-- the machine's state behind a text
wrote : (text : String) (t : Turn) (s u : State) → within (put text) t s ≡ go u → push (bytes text) s ≡ u
unfolding exec within
wrote text t s u p = let w = (done true (go (push (bytes text) s)) u p).went in cc

-- the way that the flag leads
led : (d e : Command) (t : Turn) (s u : State) (x : Bool) → s.flags.head ≡ x → within (whether (is head) d e) t s ≡ go u → elim x [ true ↦ within d t s | false ↦ within e t s ] ≡ go u
unfolding within test
led d e t s u x h p = rw h at p

module _ {c r : Context} {w o w' o' : List ℕ} {x : Bool} (a : Tells Any (is head) c x) where
  ends : (name : String) (h : (t : Turn) (s u : State) → s.flags.head ≡ x → within closing_cell t s ≡ go u → push (bytes name) s ≡ u) → Pushes (bytes ">" ++ bytes name) c w o r w' o' → Keeps Any (put ">" ▸ closing_cell) c w o r w' o'
  unfolding within
  ends name h k = record {
    keeps = λ t b s u v y p.
        let f = first_goes (within (put ">") t s) (λ z. within closing_cell t z) u p in
        let q = wrote ">" t s f.0 f.1 in
        let g : f.0.flags.head ≡ x = ap (λ (z : State). z.flags.head) (sym q) ∙ ap (λ z. z.head) (pushed (bytes ">") s).flags ∙ flag-told a t y in
        let m = ap (push (bytes name)) q ∙ h t f.0 u g f.2 in
        rw (sym (push-join (bytes ">") (bytes name) s) ∙ m) at (k.pushes b s y);
  }

  pub ends-head : x ≡ true → Pushes (bytes "></th>") c w o r w' o' → Keeps Any (put ">" ▸ closing_cell) c w o r w' o'
  ends-head z k = ends "</th>" (λ t s u g p. wrote "</th>" t s u (led (put "</th>") (put "</td>") t s u true (g ∙ z) p)) k

  pub ends-body : x ≡ false → Pushes (bytes "></td>") c w o r w' o' → Keeps Any (put ">" ▸ closing_cell) c w o r w' o'
  ends-body z k = ends "</td>" (λ t s u g p. wrote "</td>" t s u (led (put "</th>") (put "</td>") t s u false (g ∙ z) p)) k
