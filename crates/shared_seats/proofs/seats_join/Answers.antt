use Rattle.shared_seats.proofs.Seats.{joined_total, joined_else}
use Rattle.shared_seats.proofs.seats_join.Goals as goal

pub returns-clause-total : goal.returns-clause-total
returns-clause-total g c = λ f views id other v w both spent here there apart. joined_total views id other v w both spent here there apart f

pub returns-clause-others : goal.returns-clause-others
returns-clause-others g c = λ views id other k v w both spent u here there apart ni nt at. joined_else views id other v w both spent here there apart k u ni nt at
