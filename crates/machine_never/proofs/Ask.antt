-- What a link, image or call seeks is found: rule 7, by the slices of the open media. Assumes nothing.
use Rattle.std.proofs.Common.{Some, None}
use mathlib.Core.Path.{◌≡◌, refl, sym, ap, ◌∙◌}
use mathlib.Core.Bool.{Bool, true, false}
use mathlib.Core.List.{List, [], ◌∷◌}
use mathlib.Core.Option.{Option, none, some}
use Prim.Native.Nat.{ℕ, zero, suc, ◌-◌}
use native.Mathlib.Omega.{arith}
use lib.Dec.{ltb}
use lib.ListN.{length, get_or}
use Rattle.lent.specs.Bytes.{listed, one_of}
use Rattle.event.specs.declared.Event.{Event}
use Rattle.event.specs.Event.{named, events_of}
use Rattle.normalize_identifier.specs.Identity.{identity_of}
use Rattle.normalize_identifier.specs.Search.{Found, first_same}
use Rattle.check_labels.specs.Labels.{Part, slice, identities, is_defined, unless, or_else}
use Rattle.check_nesting.specs.Grammar.{name_of, holds, name_count, second_names}
use Rattle.check_nesting.specs.Nests.{Takes}
use Rattle.check_rules.specs.Elements.{Forest, nil, element, list_of, Pair, child_of, grandchild_of}
use Rattle.check_rules.specs.Rules.{Meets, LabelMeets}
use Rattle.check_rules.proofs.Before.{clash}
use Rattle.machine.specs.Outcome.{Outcome, go, ◌>>=◌}
use Rattle.machine.specs.State.{State, Span, Destination, no_destination, own, defined, Media, Definition}
use Rattle.machine.specs.Turn.{Turn, str_of}
use Rattle.machine.specs.Media.{definition_labels, label_of, defined_at, destination_of}
use Rattle.machine.specs.Handlers.{rows}
use Rattle.machine.specs.OnLink.{on_enter_link, on_enter_image}
use Rattle.machine.specs.OnFootnote.{on_enter_gfm_footnote_call}
use Rattle.machine_shape.specs.Grown.{Kinds}
use Rattle.machine_shape.specs.Pass.{behind}
use Rattle.machine_shape.specs.Right.{Goes, Sought}
use Rattle.machine_shape.proofs.Calm.{paired}
use Rattle.machine_never.specs.Values as Val
use Rattle.machine_never.specs.Values.{Ids, ids3, is_led, ids_in, effects_of, text_of}
use Rattle.machine_never.specs.Ghost.{ids_run, ids_of, Prefix, ids_over, or_that, is_part}
use Rattle.machine_never.specs.Here.{unwind, Here}
use Rattle.machine_never.specs.Known.{Has}
use Rattle.machine_never.proofs.Ids.{ids-behind}
use Rattle.machine_never.proofs.Inert.{enter_effects, enter-effects}
use Rattle.machine_never.proofs.Sought.{media-ids, call-ids, call-seeks}
use Rattle.machine_never.proofs.Here.{dropped, there, is_at}
use Rattle.machine_never.proofs.Labels.{has-found}
use Rattle.machine_never.proofs.Readable.{Reads, ReadIds}

-- ---- an element's enter, from its exit

unwind-behind : (f : Forest) (before es : List Event) → unwind (behind f before) es ≡ unwind before (list_of f es)
unwind-behind nil before es = refl
unwind-behind (element a f z g) before es = unwind-behind g (z ∷ behind f (a ∷ before)) es ∙ unwind-behind f (a ∷ before) (z ∷ list_of g es)

pub here_back : {whole : List Event} {p : ℕ} (before : List Event) (a : Event) (f : Forest) (z : Event) (es : List Event) → Here whole p (behind f (a ∷ before)) (z ∷ es) → Here whole (length before) before (a ∷ list_of f (z ∷ es))
here_back before a f z es h = record { long = refl; same = sym (unwind-behind f (a ∷ before) (z ∷ es)) ∙ h.same }

-- ---- kinds by their names

pub kind-of : (k n : ℕ) → name_of k ≡ n → one_of (0 ∷ 23 ∷ 24 ∷ 29 ∷ 47 ∷ []) n ≡ false → k ≡ n
kind-of k n e h = at (ltb k name_count) refl
  where
    other : (i : ℕ) → get_or second_names i 0 ≡ n → k ≡ n
    other zero q = clash {t = one_of (0 ∷ 23 ∷ 24 ∷ 29 ∷ 47 ∷ []) n} (rw (sym q) refl) h
    other (suc zero) q = clash {t = one_of (0 ∷ 23 ∷ 24 ∷ 29 ∷ 47 ∷ []) n} (rw (sym q) refl) h
    other (suc (suc zero)) q = clash {t = one_of (0 ∷ 23 ∷ 24 ∷ 29 ∷ 47 ∷ []) n} (rw (sym q) refl) h
    other (suc (suc (suc zero))) q = clash {t = one_of (0 ∷ 23 ∷ 24 ∷ 29 ∷ 47 ∷ []) n} (rw (sym q) refl) h
    other (suc (suc (suc (suc i)))) q = clash {t = one_of (0 ∷ 23 ∷ 24 ∷ 29 ∷ 47 ∷ []) n} (rw (sym q) refl) h

    at : (x : Bool) → ltb k name_count ≡ x → k ≡ n
    at true q = let i : name_of k ≡ k = rw q refl in sym i ∙ e
    at false q = let i : name_of k ≡ get_or second_names (k - name_count) 0 = rw q refl in other (k - name_count) (sym i ∙ e)

-- ---- a sought label is found

destination-there : (ds : List Definition) (d : Destination) (b : List ℕ) → (is_led d ≡ false → Has (identity_of b) (definition_labels ds)) → Goes (destination_of ds d (some b))
destination-there ds no_destination b h = at (first_same (definition_labels ds) b) refl
  where
    at : (f : Found) → first_same (definition_labels ds) b ≡ f → Goes (defined_at f)
    at (Some k) e = (defined k, refl)
    at None e = absurd (has-found (definition_labels ds) b (h refl) e)
destination-there ds (own d) b h = (own d, refl)
destination-there ds (defined k) b h = (defined k, refl)

destination-none : (ds : List Definition) (d : Destination) → Goes (destination_of ds d none)
destination-none ds no_destination = (no_destination, refl)
destination-none ds (own d) = (own d, refl)
destination-none ds (defined k) = (defined k, refl)

-- by the parts that an element has
module _ (t : Turn) (ds : List Definition) (d : Destination) (ids : List (List ℕ)) (known : (id : List ℕ) → listed ids id ≡ true → Has id (definition_labels ds)) where
  abbrev Seeks : Option Span → Option Span → Type 0
  Seeks r l = (sought : Option (List ℕ)) × (label_of t r l ≡ go sought) × Goes (destination_of ds d sought)

  found : (from to : ℕ) → Reads t.text (record { from = from; to = to }) → (is_led d ≡ false → is_defined t.text ids (Some (from, to)) ≡ true)
      → (sought : Option (List ℕ)) × ((str_of t.text (record { from = from; to = to }) >>= λ b. go (some b)) ≡ go sought) × Goes (destination_of ds d sought)
  unfolding is_defined
  found from to r h = (
    some (slice t.text from to),
    ap (λ (q : Outcome (List ℕ)). q >>= λ b. go (some b)) r,
    destination-there ds d (slice t.text from to) (λ q. known (identity_of (slice t.text from to)) (h q)),
  )

  seeks : (resource reference label : Part) → is_led d ≡ is_part resource → is_defined t.text ids (unless resource (or_else reference label)) ≡ true
      → ((p : Span) → or_that label none ≡ some p → Reads t.text p) → ((p : Span) → or_that reference none ≡ some p → Reads t.text p)
      → Seeks (or_that reference none) (or_that label none)
  seeks resource (Some (from, to)) label e h l r = found from to (r (record { from = from; to = to }) refl) (λ q. own-part resource e q h)
    where
      own-part : (x : Part) → is_led d ≡ is_part x → is_led d ≡ false → is_defined t.text ids (unless x (Some (from, to))) ≡ true → is_defined t.text ids (Some (from, to)) ≡ true
      own-part (Some (i, j)) e q h = clash e q
      own-part None e q h = h
  seeks resource None (Some (from, to)) e h l r = found from to (l (record { from = from; to = to }) refl) (λ q. own-part resource e q h)
    where
      own-part : (x : Part) → is_led d ≡ is_part x → is_led d ≡ false → is_defined t.text ids (unless x (Some (from, to))) ≡ true → is_defined t.text ids (Some (from, to)) ≡ true
      own-part (Some (i, j)) e q h = clash e q
      own-part None e q h = h
  seeks resource None None e h l r = (none, refl, destination-none ds d)

-- ---- at the exit of an element

module _ (text events : List ℕ) (meets : Meets text events) (p : ℕ) (before : List Event) (a : Event) (f : Forest) (z : Event) (es : List Event) (h : Here (events_of events) p (behind f (a ∷ before)) (z ∷ es)) (r : Pair a z) {ks : List ℕ} (c : Kinds ks f) where
  back : Here (events_of events) (length before) before (a ∷ list_of f (z ∷ es))
  back = here_back before a f z es h

  labels-there : LabelMeets text (events_of events) a f
  labels-there =
      let i = is_at text events meets (length before) before a (list_of f (z ∷ es)) back in
      let m = meets.labels (length before) (there text events meets (length before) before a (list_of f (z ∷ es)) back) f (record { exit = z; rest = es; here = dropped (length before) before (a ∷ list_of f (z ∷ es)) back ∙ ap (λ (x : Event). x ∷ list_of f (z ∷ es)) (sym i); pair = rw i r; paired = paired c }) in
      rw i at m

  pub opened : (n : ℕ) → a.name ≡ n → (enter_effects n ≡ Val.pushes ∷ []) → ids_of (behind f (a ∷ before)) ≡ ids_over f (ids3 none none false ∷ ids_of before)
  unfolding ids_of
  opened n e q = ids-behind f (a ∷ before) ∙ ap (λ (l : List Val.Effect). ids_over f (ids_run a l (ids_of before))) (enter-effects a n r.0 e ∙ q)

  -- the newest medium is the element's
  pub newest-is : (i : Ids) (s : State) → ids_of (behind f (a ∷ before)) ≡ i ∷ ids_of before → Prefix (ids_in s.media) (ids_of (behind f (a ∷ before))) → (m : Media) (ms : List Media) → s.media ≡ m ∷ ms → ids3 m.label_id m.reference_id (is_led m.destination) ≡ i
  newest-is i s e pre m ms q = let k : Prefix (ids_in (m ∷ ms)) (i ∷ ids_of before) = rw (q, e) at pre in k.0

  -- ---- links and images

  pub media-top : a.name ≡ 45 → Takes (holds 45) ks → ids_of (behind f (a ∷ before)) ≡ ids3 (or_that (grandchild_of 48 f) none) (or_that (child_of 52 f) none) (is_part (child_of 49 f)) ∷ ids_of before
  unfolding effects_of rows on_enter_link
  media-top e w = opened 45 e refl ∙ media-ids f c w (ids_of before)

  pub image-top : a.name ≡ 46 → Takes (holds 45) ks → ids_of (behind f (a ∷ before)) ≡ ids3 (or_that (grandchild_of 48 f) none) (or_that (child_of 52 f) none) (is_part (child_of 49 f)) ∷ ids_of before
  unfolding effects_of rows on_enter_image
  image-top e w = opened 46 e refl ∙ media-ids f c w (ids_of before)

  pub media-sought : (t : Turn) (s : State) → t.text ≡ text → named (45 ∷ 46 ∷ []) a ≡ true
      → ids_of (behind f (a ∷ before)) ≡ ids3 (or_that (grandchild_of 48 f) none) (or_that (child_of 52 f) none) (is_part (child_of 49 f)) ∷ ids_of before
      → Prefix (ids_in s.media) (ids_of (behind f (a ∷ before))) → ReadIds text (ids_of (behind f (a ∷ before)))
      → ((id : List ℕ) → listed (identities 54 text (events_of events)) id ≡ true → Has id (definition_labels s.kept.definitions)) → Sought t s
  media-sought t s tx n top pre reads known m ms q =
      let i = newest-is (ids3 (or_that (grandchild_of 48 f) none) (or_that (child_of 52 f) none) (is_part (child_of 49 f))) s top pre m ms q in
      let l : m.label_id ≡ or_that (grandchild_of 48 f) none = ap (λ (x : Ids). x.label_id) i in
      let rf : m.reference_id ≡ or_that (child_of 52 f) none = ap (λ (x : Ids). x.reference_id) i in
      let d : is_led m.destination ≡ is_part (child_of 49 f) = ap (λ (x : Ids). x.led) i in
      let g : ReadIds text (ids3 (or_that (grandchild_of 48 f) none) (or_that (child_of 52 f) none) (is_part (child_of 49 f)) ∷ ids_of before) = rw top at reads in
      let df = labels-there.media r.0 n in
      rw (l, rf) (seeks t s.kept.definitions m.destination (identities 54 text (events_of events)) known (child_of 49 f) (child_of 52 f) (grandchild_of 48 f) d (rw tx df) (rw tx g.0) (rw tx g.1))

  -- ---- calls

  pub call-top : a.name ≡ 62 → Takes (holds 62) ks → ids_of (behind f (a ∷ before)) ≡ ids3 (or_that (grandchild_of 48 f) none) none false ∷ ids_of before
  unfolding effects_of rows on_enter_gfm_footnote_call
  call-top e w = opened 62 e refl ∙ call-ids f c w (ids_of before)

  pub call-listed : a.name ≡ 62 → Takes (holds 62) ks → (q : Span) → or_that (grandchild_of 48 f) none ≡ some q → listed (identities 65 text (events_of events)) (identity_of (text_of text q)) ≡ true
  unfolding is_defined
  call-listed e w q i =
      let n : named (62 ∷ []) a ≡ true = rw e refl in
      let d : is_defined text (identities 65 text (events_of events)) (grandchild_of 48 f) ≡ true = rw (call-seeks f c w) at (labels-there.call r.0 n) in
      at (grandchild_of 48 f) d i
    where
      at : (x : Part) → is_defined text (identities 65 text (events_of events)) x ≡ true → or_that x none ≡ some q → listed (identities 65 text (events_of events)) (identity_of (text_of text q)) ≡ true
      at (Some (from, to)) d i = let j : record { from = from; to = to } ≡ q = cc in rw (sym j) d
      at None d i = let u : ◌≡◌ {A = ℕ} 0 1 = cc in absurd (omega arith)
