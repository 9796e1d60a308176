-- The bytes of the number are stored where a slice of them stands.
use Rattle.laws.specs.Kit.{◌∙◌}
use Rattle.endian.proofs.Bytes.{eight_bytes, put_part}
use Rattle.endian.proofs.write64.Goals as goal

pub returns : goal.returns
returns c =
    put_part 8 c.args.x c.args.d.now c.args.at c.requires
    (c.copy_from_slice.ensures.after ∙ c.to_be_bytes.ensures ∙ eight_bytes c.args.x c.ranges.x.fits)
