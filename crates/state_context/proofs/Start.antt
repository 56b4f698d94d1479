-- The state before the first event stands for the machine's: the relation can be met. Assumes nothing.
use Rattle.std.proofs.Common.{None, ◌≡◌, refl, false, List, [], ℕ, ◌<◌, arith}
use Rattle.machine.specs.declared.Fixed.{Fixed}
use Rattle.machine.specs.State.{start}
use Rattle.packed.specs.Word.{digit_of}
use Rattle.state_buffers.specs.Stand.{Holds}
use Rattle.state_context.specs.declared.Context.{Context}
use Rattle.state_context.specs.Rel.{Begun}
use Rattle.state_context.specs.Private.{Starts}

holds-nothing : (d : List ℕ) → Holds d 0 []
holds-nothing d = record { place = omega arith; bytes = λ h. refl }

abbrev before : (word : ℕ) → Context
before word =
    record {
      buffers = record { page = 0; end = 0; start = 0; depth = 0 };
      word = word;
      rank = None;
      tight = record { bits = 0; count = 0 };
      table = record { inside = false; extra = 0; column = 0 };
    }

pub begins-so : (fixed : Fixed) {word : ℕ} → Starts fixed word → Begun fixed (before word)
unfolding start digit_of
begins-so fixed {word} k =
    record {
      begun = λ w o b. record {
        stand = record { page = holds-nothing o; flat-is = holds-nothing w; depth = refl; starts-are = λ h. tt };
        flags = rw (same 0 (omega arith), same 1 (omega arith), same 2 (omega arith), same 3 (omega arith), same 4 (omega arith));
        waits = record { rank = refl; seen = same 5 (omega arith); fences = same 6 (omega arith); marker = same 7 (omega arith); first = same 8 (omega arith) };
        tight = record { count = refl; bits = refl; small = omega arith };
        table = record { aligns = refl; column = refl };
        fixed = k.holds;
      };
    }
  where
    same : (j : ℕ) → j < 9 → digit_of j word ≡ digit_of j 4
    same j h = k.begins j h
