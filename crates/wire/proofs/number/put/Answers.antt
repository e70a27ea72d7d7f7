use Rattle.std.proofs.Common.{refl, arith}
use Rattle.wire.proofs.Written.{overwritten}
use Rattle.wire.proofs.number.put.Goals as goal

pub returns : goal.returns
returns c = (refl, omega arith, overwritten c.args.out.now c.copy_from_slice.new.self c.args.bytes.now c.args.at _ c.copy_from_slice.ensures.after (omega arith) (omega arith))
