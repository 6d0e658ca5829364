-- Why a contract has one result. It is an equation with a definition, of the result itself or of what a map says of it. The first is met by one
-- result alone (`one_result`), and so is the second where the map is one to one (`one_answer`), as it is where it can be undone (`undone`). That
-- each public function's own contract has one result is a theorem of its crate (`proofs/Fixed.antt`), by these.
use mathlib.Core.Path.{◌≡◌, sym, ap, ◌∙◌}
use Rattle.coincidence.specs.Coincidence.{OneToOne}

pub one_result : {A : Type 0} {defined r t : A} → r ≡ defined → t ≡ defined → r ≡ t
one_result p q = p ∙ sym q

pub one_answer : {A B : Type 0} {S : A → B} → OneToOne S → {defined : B} (a b : A) → S a ≡ defined → S b ≡ defined → a ≡ b
one_answer once a b p q = once a b (one_result p q)

pub undone : {A B : Type 0} (S : A → B) (back : B → A) → ((a : A) → back (S a) ≡ a) → OneToOne S
undone S back is a b e = sym (is a) ∙ ap back e ∙ is b
