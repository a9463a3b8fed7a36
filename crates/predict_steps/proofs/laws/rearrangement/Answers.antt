use Rattle.predict_steps.proofs.Rearranged.{rearrangement_exists, rearrangement_is_unique, rising_steps_stay, totals_stay}
use Rattle.predict_steps.proofs.laws.rearrangement.Goals as goal

pub returns : goal.returns
returns c = record { totals = totals_stay; exists = rearrangement_exists; unique = rearrangement_is_unique; rising = rising_steps_stay }
