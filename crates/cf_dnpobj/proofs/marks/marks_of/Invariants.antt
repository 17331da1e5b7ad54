use Rattle.std.proofs.Common.{◌*◌, ◌≡◌, length}
use Rattle.cf_dnpobj.specs.Acts.{AreMarksTo, IsMark}
use Rattle.cf_dnpobj.proofs.marks.marks_of.Given as goal

abbrev pub invariant-loop-number : goal.invariant-loop-number
invariant-loop-number l = record {
  marks : AreMarksTo l.fragment.code l.fragment.objects.bytes l.number l.marks;
  size : length l.marks ≡ 44;
  next : IsMark l.fragment.code l.fragment.objects.bytes (16 * l.number) l.mark;
}
