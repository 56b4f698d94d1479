-- The promise of the reader in parts: whatever the cut, the parts and the end come to what the definition says of the joined bytes. Assumes nothing.
use Rattle.std.proofs.Common.{Some, ◌≡◌, refl, sym, ap, ◌∙◌, Bool, true, false, List, [], ◌∷◌, ◌++◌, ℕ}
use Rattle.bundle_block.specs.declared.Refusal.TheVariants.{Short}
use Rattle.bundle_block.specs.Block.{◌before◌, demand}
use Rattle.bundle_read.specs.Read.{Answer}
use Rattle.bundle_parts.specs.Late.{judge_came}
use Rattle.bundle_parts.specs.declared.Reader.{Reader}
use Rattle.bundle_parts.specs.Feed.{Stand, stand_of, start_of, roomy, feed_of, end_of}
use Rattle.bundle_parts.specs.Parts.{joined, fed_of, judge_fed, HasFed, HasReadLate}
use Rattle.bundle_parts.proofs.Joined.{feed-done, feed-short, fed-joined}
use Rattle.bundle_parts.proofs.Start.{one-fed}
use Rattle.bundle_parts.proofs.Closing.{end-done, all-late, none-late}

-- parts one after the other, the first of which may be empty as any other
pub fed : (t e part : List ℕ) (parts : List (List ℕ)) → HasFed (judge_fed (joined (part ∷ parts)) t e) (joined (part ∷ parts)) t e (fed_of (start_of t e) (part ∷ parts))
fed t e part parts = rw (fed-joined (start_of t e) part parts) (by (roomy t e) refl)
  where
    by : (x : Bool) → roomy t e ≡ x → HasFed (demand x Short before judge_came (part ++ joined parts)) (part ++ joined parts) t e (feed_of (start_of t e) (part ++ joined parts))
    by true p = one-fed (part ++ joined parts) t e p (judge_came (part ++ joined parts)) refl
    by false p = feed-short (start_of t e) (part ++ joined parts) refl p

-- however the bytes are cut, any part empty or none at all
pub ended : (t e : List ℕ) (parts : List (List ℕ)) → HasReadLate (joined parts) t e (end_of (fed_of (start_of t e) parts))
ended t e [] = none-late t e
ended t e (part ∷ parts) = rw (fed-joined (start_of t e) part parts) (all-late (part ++ joined parts) t e)

-- ---- after an answer

-- further calls repeat it, whatever is handed over, and leave the buffers as they are
pub repeated : (s : Stand) {a : Answer} → s.progress ≡ Some a → (parts : List (List ℕ)) → (fed_of s parts ≡ s) × (end_of s ≡ s)
repeated s p [] = (refl, end-done s p)
repeated s p (part ∷ parts) = rw (feed-done s part p) (repeated s p parts)

-- ---- two results that meet a call's contract

-- they say the same: the answer, every byte of both buffers, and what later calls go by
pub unique : (r r' : Reader) (t e t' e' : List ℕ) {s : Stand} → stand_of r t e ≡ s → stand_of r' t' e' ≡ s → (r.state.progress ≡ r'.state.progress) × (t ≡ t') × (e ≡ e') × (stand_of r t e ≡ stand_of r' t' e')
unique r r' t e t' e' p q = let m = p ∙ sym q in (ap (λ (x : Stand). x.progress) m, ap (λ (x : Stand). x.text) m, ap (λ (x : Stand). x.events) m, m)
