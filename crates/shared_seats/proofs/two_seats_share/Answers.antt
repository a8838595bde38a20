use Rattle.shared_seats.proofs.Lists.{two_of}
use Rattle.shared_seats.proofs.two_seats_share.Goals as goal

pub returns : goal.returns
returns g c = two_of
