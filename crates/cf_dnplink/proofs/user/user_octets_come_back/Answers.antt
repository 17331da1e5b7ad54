use Rattle.cf_dnplink.proofs.Reading.{user_again}
use Rattle.cf_dnplink.proofs.user.user_octets_come_back.Goals as goal

pub returns : goal.returns
returns c = user_again
