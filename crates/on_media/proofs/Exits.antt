-- The end of a link or an image, part by part. Assumes nothing.
use mathlib.Core.Path.{◌≡◌, refl}
use mathlib.Core.Bool.{true}
use mathlib.Core.List.{List}
use Prim.Native.Nat.{ℕ}
use Rattle.machine.specs.declared.Options.{Options}
use Rattle.machine.specs.Command.{Command, ◌▸◌}
use Rattle.machine.specs.Words.{leave_image, seek_definition, close_media}
use Rattle.state_context.specs.Rel.{Any}
use Rattle.state_media.specs.declared.Links.{Links}
use Rattle.state_media.specs.Links.{Closes}
use Rattle.state_whole.specs.declared.Whole.{Whole}
use Rattle.state_whole.specs.Quiet.{is_quiet}
use Rattle.state_whole.specs.Whole.{Always, Held, Unlent, OnPage, with_links, with_out, with_work}
use Rattle.state_whole.proofs.Media.{closes-media}
use Rattle.write_held.proofs.Steady.{quiet-steady}
use Rattle.on_definition.specs.Definitions.{Known, FromDefinitions}
use Rattle.on_definition.proofs.Sought.{seek-steady}
use Rattle.on_media.specs.Parts.{Chooses, OnShown}
use Rattle.on_media.specs.Media.{ReadsBy, OnMedia}
use Rattle.on_media.proofs.Chains.{then-known, narrowed}

-- four parts that write, each quiet
module _ {s l e x : Command} (qs : is_quiet s ≡ true) (ql : is_quiet l ≡ true) (qe : is_quiet e ≡ true) (qx : is_quiet x ≡ true) where
  pub exits : {text : List ℕ} {o : Options} {b b1 b2 b3 b4 b5 b6 : Whole} {links : Links} {work out definitions w1 o1 w2 o2 w3 o3 w4 o4 : List ℕ} → Unlent Always Any leave_image b b1 → FromDefinitions Known seek_definition b1 text definitions b2
      → OnShown Known (Chooses o) s b2 work out definitions b3 w1 o1 → OnPage Held Any l b3 w1 o1 b4 w2 o2 → OnShown Known Any e b4 w2 o2 definitions b5 w3 o3 → OnPage Held Any x b5 w3 o3 b6 w4 o4 → Closes b6.links links
      → OnMedia Known (ReadsBy text o) (leave_image ▸ seek_definition ▸ s ▸ l ▸ e ▸ x ▸ close_media) b text work out definitions (with_links links b6) w4 o4
  exits {text} {o} {w1 = w1} {o1 = o1} {w2 = w2} {o2 = o2} {w3 = w3} {o3 = o3} {w4 = w4} {o4 = o4} k1 k2 k3 k4 k5 k6 k7 = record {
    on-media = λ w i j f.
        then-known (quiet-steady leave_image refl) (narrowed (λ t v. record {}) (λ a. tt) (k1.unlent text w))
        (then-known seek-steady (narrowed (λ t v. v.reads) (λ a. a) (k2.from-definitions w f))
        (then-known (quiet-steady s qs) (narrowed (λ t v. v.chooses) (λ a. a) (k3.on-shown text w i j f))
        (then-known (quiet-steady l ql) (narrowed (λ t v. record {}) (λ a. a.held) (k4.on-page text (with_out o1 (with_work w1 w)) refl refl))
        (then-known (quiet-steady e qe) (narrowed (λ t v. record {}) (λ a. a) (k5.on-shown text (with_out o2 (with_work w2 w)) refl refl f))
        (then-known (quiet-steady x qx) (narrowed (λ t v. record {}) (λ a. a.held) (k6.on-page text (with_out o3 (with_work w3 w)) refl refl))
        (narrowed {N = Held} {Wide = Any} (λ t v. record {}) (λ a. a.held) ((closes-media k7).unlent text (with_out o4 (with_work w4 w)))))))));
  }
