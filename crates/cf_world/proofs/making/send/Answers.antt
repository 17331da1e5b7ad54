use Rattle.cf_hosts.specs.Next.{made_record}
use Rattle.cf_world.specs.Making.{record_octets}
use Rattle.cf_world.proofs.SoFar.{whole_part}
use Rattle.cf_world.proofs.making.send.Goals as goal

pub returns-in-Err-NoMemory-clause-file : goal.returns-in-Err-NoMemory-clause-file
returns-in-Err-NoMemory-clause-file g c =
    whole_part (g.F.Files.content c.args.files.now c.args.capture.now) (g.F.Files.content c.append_record.new.files c.args.capture.now)
    (record_octets (made_record c.args.moment c.args.packet.now)) c.in_default.ensures.file.1
