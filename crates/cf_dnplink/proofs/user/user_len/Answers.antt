use Rattle.std.proofs.Common.{arith}
use Rattle.cf_dnplink.specs.LinkFrame.{frame_value}
use Rattle.cf_dnplink.proofs.Frames.{user_sizes}
use Rattle.cf_dnplink.proofs.user.user_len.Goals as goal

pub overflow_add-result : goal.overflow_add-result
overflow_add-result c = (let s = user_sizes (frame_value c.args.frame.now) c.requires in let l = c.len-len.ensures.length in omega (arith, s.0, s.1, l))

pub overflow_sub-result : goal.overflow_sub-result
overflow_sub-result c = (let s = user_sizes (frame_value c.args.frame.now) c.requires in let l = c.len-len.ensures.length in omega (arith, s.0, s.1, l))

pub returns-clause-value : goal.returns-clause-value
returns-clause-value c = (let s = user_sizes (frame_value c.args.frame.now) c.requires in let l = c.len-len.ensures.length in omega (arith, s.0, s.1, l))

pub returns-clause-at_most : goal.returns-clause-at_most
returns-clause-at_most c = (let s = user_sizes (frame_value c.args.frame.now) c.requires in let l = c.len-len.ensures.length in omega (arith, s.0, s.1, l))
