use Rattle.std.proofs.Common.{◌≡◌, ◌<◌, ◌^◌, ◌⊎◌, length, refl}
use Rattle.std.specs.Prelude.{MatchResult}
use Rattle.lg_memory.specs.declared.fault.ImageFault.TheVariants.{ImageTooLong}
use Rattle.lg_memory.specs.declared.fault.ImageFault.TheVariants.{Memory as NoMemory}
use Rattle.lg_memory.proofs.ImageLemmas.{image_only}
use Rattle.lg_memory.proofs.image.read_image.Goals as goal

pub returns-in-Some-clause-only : goal.returns-in-Some-clause-only
returns-in-Some-clause-only c =
    image_only c.args.width (2 ^ c.args.width) c.args.bytes.now c.in-Some.text.now
    (λ all. MatchResult c.read_words.result (λ read. read.items ≡ all) (λ e. (e ≡ NoMemory) ⊎ ((e ≡ ImageTooLong) × (c.args.words < length all))))
    refl c.in-Some.ensures c.read_words.ensures.only

pub returns-in-Some-clause-not_image : goal.returns-in-Some-clause-not_image
returns-in-Some-clause-not_image c = λ refused.
    image_only c.args.width (2 ^ c.args.width) c.args.bytes.now c.in-Some.text.now (λ all. ⊥)
    refl c.in-Some.ensures (c.read_words.ensures.not_image refused)

pub returns-in-None-clause-only : goal.returns-in-None-clause-only
returns-in-None-clause-only c = λ all image. absurd (c.in-None.ensures image.0 image.1)

pub returns-in-None-clause-not_image : goal.returns-in-None-clause-not_image
returns-in-None-clause-not_image c = λ _ all image. c.in-None.ensures image.0 image.1
