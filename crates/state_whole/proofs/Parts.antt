-- What each part of the relation depends on. Assumes nothing.
use mathlib.Core.Path.{◌≡◌, refl, sym, ap, ◌∙◌}
use mathlib.Core.List.{List, ◌++◌}
use Prim.Native.Nat.{ℕ, ◌+◌, ◌≤◌}
use native.Mathlib.Omega.{arith}
use lib.ListN.{length, take, drop, length-append, length-drop, length-take}
use lib.Seq.{take_at, drop_at, drop-drop}
use Rattle.regions.specs.Sizes.{region_size, work_size}
use Rattle.machine.specs.State.{State}
use Rattle.machine.specs.Totals.{size, media_sizes, held, definition_sizes, footnote_sizes, kept}
use Rattle.regions.specs.Regions.{region_at}
use Rattle.state_context.specs.declared.Context.{Context}
use Rattle.state_context.specs.Rel.{Rel, Waits}
use Rattle.state_context.proofs.Plain.{stands}
use Rattle.state_media.specs.declared.Links.{Links}
use Rattle.state_media.specs.Links.{Linked, OthersBare, NewestIs, TextIs, images_of}
use Rattle.state_kept.specs.declared.Kept.{Kept}
use Rattle.state_kept.specs.Kept.{Tables, InTables}
use Rattle.state_whole.specs.Quiet.{Rests}

-- ---- the context

pub record Alike (s u : State) : Type 0 where
  pub page : u.page ≡ s.page
  pub captures : u.captures ≡ s.captures
  pub flags : u.flags ≡ s.flags
  pub rank : u.waiting.rank ≡ s.waiting.rank
  pub seen : u.waiting.seen ≡ s.waiting.seen
  pub fences : u.waiting.fences ≡ s.waiting.fences
  pub marker : u.waiting.marker ≡ s.waiting.marker
  pub first : u.waiting.first ≡ s.waiting.first
  pub tight : u.tight ≡ s.tight
  pub table : u.table ≡ s.table
  pub fixed : u.fixed ≡ s.fixed

pub rel-alike : {c : Context} {w o st : List ℕ} {s u : State} → Alike s u → Rel c w o st s → Rel c w o st u
rel-alike a r =
    let v = r.waits in
    record {
      stand = stands r.stand a.page a.captures;
      flags = r.flags ∙ sym a.flags;
      waits = record { rank = v.rank ∙ sym a.rank; seen = rw a.seen v.seen; fences = rw a.fences v.fences; marker = rw a.marker v.marker; first = rw a.first v.first };
      tight = rw a.tight r.tight;
      table = rw a.table r.table;
      fixed = r.fixed ∙ sym a.fixed;
    }

-- ---- open media, and the setext text

held-is : (s u : State) → u.media ≡ s.media → u.waiting.setext ≡ s.waiting.setext → held u ≡ held s
unfolding held
held-is s u p q = rw (p, q)

pub linked-same : {l : Links} {region : List ℕ} {s u : State} → u.media ≡ s.media → u.waiting.setext ≡ s.waiting.setext → Linked l region s → Linked l region u
linked-same {s = s} {u = u} p q k =
    let h = held-is s u p q in
    record {
      long = k.long;
      images = rw p k.images;
      others = rw p k.others;
      end = rw h k.end;
      newest = λ f. (rw p (k.newest (rw h at f)));
      setext = λ f. (rw q (k.setext (rw h at f)));
    }

-- ---- what is kept

kept-is : (s u : State) → u.kept ≡ s.kept → kept u ≡ kept s
unfolding kept
kept-is s u p = rw p

pub keeps_same : {k : Kept} {text region : List ℕ} {t : Tables} {s u : State} → u.kept ≡ s.kept → u.labels ≡ s.labels → InTables k text region t s → InTables k text region t u
keeps_same {s = s} {u = u} p q x =
    let h = kept-is s u p in
    record {
      long = x.long;
      end = rw h x.end;
      definitions = λ f. (rw p (x.definitions (rw h at f)));
      footnotes = λ f. (rw p (x.footnotes (rw h at f)));
      calls = rw p x.calls;
      labels = rw q x.labels;
    }

-- ---- the regions behind the captures

pub front_long : (work : List ℕ) → length work ≡ work_size → length (take region_size work) ≡ region_size
front_long work h = let a = length-take region_size work in omega arith

module _ (captures work : List ℕ) (h : length captures ≡ region_size) where
  pub front-is : take region_size (captures ++ drop region_size work) ≡ captures
  front-is = take_at captures (drop region_size work) region_size h

  pub behind-is : (k : ℕ) → drop (region_size + k) (captures ++ drop region_size work) ≡ drop (region_size + k) work
  behind-is k = sym (drop-drop k region_size (captures ++ drop region_size work)) ∙ ap (drop k) (drop_at captures (drop region_size work) region_size h) ∙ drop-drop k region_size work

  pub as_long : length work ≡ work_size → length (captures ++ drop region_size work) ≡ work_size
  as_long l = let a = length-append captures (drop region_size work) in let b = length-drop region_size work in omega arith
