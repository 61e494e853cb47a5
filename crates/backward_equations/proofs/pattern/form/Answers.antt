-- `backward_equations::form`: the numbers of each arm are the printed decimals.
use mathlib.Core.Path.{sym, ap}
use lib.Ieee.{of_bits}
use Rattle.common.specs.Decimal.{decimal, whole, scaled}
use Rattle.backward_equations.specs.Equation.{form_of}
use Rattle.backward_equations.proofs.pattern.form.Goals as goal

pub returns-in-T3aPh : goal.returns-in-T3aPh
unfolding of_bits decimal whole scaled
returns-in-T3aPh c = sym (ap form_of c.in-T3aPh.is)

pub returns-in-T3bPh : goal.returns-in-T3bPh
unfolding of_bits decimal whole scaled
returns-in-T3bPh c = sym (ap form_of c.in-T3bPh.is)

pub returns-in-V3aPh : goal.returns-in-V3aPh
unfolding of_bits decimal whole scaled
returns-in-V3aPh c = sym (ap form_of c.in-V3aPh.is)

pub returns-in-V3bPh : goal.returns-in-V3bPh
unfolding of_bits decimal whole scaled
returns-in-V3bPh c = sym (ap form_of c.in-V3bPh.is)

pub returns-in-T3aPs : goal.returns-in-T3aPs
unfolding of_bits decimal whole scaled
returns-in-T3aPs c = sym (ap form_of c.in-T3aPs.is)

pub returns-in-T3bPs : goal.returns-in-T3bPs
unfolding of_bits decimal whole scaled
returns-in-T3bPs c = sym (ap form_of c.in-T3bPs.is)

pub returns-in-V3aPs : goal.returns-in-V3aPs
unfolding of_bits decimal whole scaled
returns-in-V3aPs c = sym (ap form_of c.in-V3aPs.is)

pub returns-in-V3bPs : goal.returns-in-V3bPs
unfolding of_bits decimal whole scaled
returns-in-V3bPs c = sym (ap form_of c.in-V3bPs.is)

pub returns-in-P3aHs : goal.returns-in-P3aHs
unfolding of_bits decimal whole scaled
returns-in-P3aHs c = sym (ap form_of c.in-P3aHs.is)

pub returns-in-P3bHs : goal.returns-in-P3bHs
unfolding of_bits decimal whole scaled
returns-in-P3bHs c = sym (ap form_of c.in-P3bHs.is)
