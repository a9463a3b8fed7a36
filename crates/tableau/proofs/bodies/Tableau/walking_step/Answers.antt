use Rattle.tableau.proofs.bodies.Tableau.walking_step.Goals as goal

pub walking_step-requires-clause-optimal : goal.walking_step-requires-clause-optimal
walking_step-requires-clause-optimal g c κs within = rw c.in-Fractions.is at c.requires.optimal

pub walking_step-requires-in-Wholes-clause-optimal : goal.walking_step-requires-in-Wholes-clause-optimal
walking_step-requires-in-Wholes-clause-optimal g c κs within = rw c.in-Wholes.is at c.requires.optimal
