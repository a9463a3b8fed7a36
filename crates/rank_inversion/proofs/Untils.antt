-- What jobs answer, up to the first stop.
use Rattle.std.proofs.Common.{◌≡◌, List, [], ◌∷◌, ◌++◌, map, Option, None, Some, Result, Ok, Err, refl, ap, subst}
use Rattle.std.specs.List.{AllZip}
use Rattle.rank_inversion.specs.Until.{AreAnswered, IsStoppedAfter, IsUntilStop}

module _ {A B E : Type 0} (R : A → Result B E → Type 0) where
  all_done : (asked : List A) (done : List B) → AllZip R asked (map Ok done) → AllZip (λ a b. R a (Ok b)) asked done
  all_done [] [] h = tt
  all_done [] (b ∷ done) h = absurd h
  all_done (a ∷ asked) [] h = absurd h
  all_done (a ∷ asked) (b ∷ done) h = (h.0, all_done asked done h.1)

  stopped_after : (asked : List A) (done : List B) (stop : E) (rest : List (Result B E)) → AllZip R asked (map Ok done ++ Err stop ∷ rest) → IsStoppedAfter R asked done stop
  stopped_after [] [] stop rest h = absurd h
  stopped_after [] (b ∷ done) stop rest h = absurd h
  stopped_after (a ∷ asked) [] stop rest h = record { earlier = []; here = a; later = asked; order = refl; answered = tt; stopped = h.0 }
  stopped_after (a ∷ asked) (b ∷ done) stop rest h =
      let r = stopped_after asked done stop rest h.1 in
      record { earlier = a ∷ r.earlier; here = r.here; later = r.later; order = ap (λ l. a ∷ l) r.order; answered = (h.0, r.answered); stopped = r.stopped }

  pub answered_until : (asked : List A) (answers : List (Result B E)) (done : List B) (stop : Option E) → AllZip R asked answers → IsUntilStop answers done stop → AreAnswered R asked done stop
  answered_until asked answers done None zip is = all_done asked done (subst (AllZip R asked) is zip)
  answered_until asked answers done (Some stop) zip is = stopped_after asked done stop is.0 (subst (AllZip R asked) is.1 zip)

-- answers to jobs that are made of what is asked
module _ {A J B : Type 0} (f : A → J) (Q : J → B → Type 0) where
  along : (asked : List A) (answers : List B) → AllZip Q (map f asked) answers → AllZip (λ a b. Q (f a) b) asked answers
  along [] [] h = tt
  along [] (b ∷ answers) h = absurd h
  along (a ∷ asked) [] h = absurd h
  along (a ∷ asked) (b ∷ answers) h = (h.0, along asked answers h.1)

  pub zip_of : (asked : List A) (jobs : List J) (answers : List B) → jobs ≡ map f asked → AllZip Q jobs answers → AllZip (λ a b. Q (f a) b) asked answers
  zip_of asked jobs answers made zip = along asked answers (subst (λ l. AllZip Q l answers) made zip)
