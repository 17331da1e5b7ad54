use Rattle.cf_policylang.proofs.Members.{members_with}
use Rattle.cf_hosts.proofs.document.insert.Goals as goal

pub returns : goal.returns
returns c =
    rw (c.in_ok-insert.ensures.entries, members_with c.args.table.now.entries c.in_ok-key.key c.args.value, c.in_ok-key.ensures.ok)
