use Rattle.shared_seats.proofs.Seats.{divided_total, divided_else}
use Rattle.shared_seats.proofs.seats_divide.Goals as goal

pub returns-clause-total : goal.returns-clause-total
returns-clause-total g c = λ f views id v left right here. divided_total views id v left right here f

pub returns-clause-others : goal.returns-clause-others
returns-clause-others g c = λ views id k v left right u here ne at. divided_else views id v left right here k u ne at
