use Rattle.std.proofs.Common.{vec_items}
use Rattle.ltlf.proofs.Texts.{text_law}
use Rattle.ltlf.proofs.Tasking.{few, well_read, mildly_read}
use Rattle.ltlf.proofs.reader.read_task.Goals as goal

pub invariant_of-out-in-Ok : goal.invariant_of-out-in-Ok
invariant_of-out-in-Ok c =
    let ys = vec_items c.read_whole.new.nodes in record {
      small = few c.args.actions c.args.text.now ys c.if-not-in_range.ensures;
      few = c.read_whole.ensures.few;
      mild = mildly_read c.args.actions c.args.text.now ys _ c.in-Ok.ensures.whole;
    }

pub returns-in-Ok-clause-reads : goal.returns-in-Ok-clause-reads
returns-in-Ok-clause-reads c = well_read c.args.actions c.args.text.now (vec_items c.read_whole.new.nodes) c.if-not-in_range.ensures _ c.in-Ok.ensures.whole

pub returns-in-Ok-clause-law : goal.returns-in-Ok-clause-law
returns-in-Ok-clause-law c = text_law c.args.actions c.args.text.now

pub returns-in-Err-clause-law : goal.returns-in-Err-clause-law
returns-in-Err-clause-law c = text_law c.args.actions c.args.text.now
