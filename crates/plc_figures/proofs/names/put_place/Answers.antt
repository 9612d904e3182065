use Rattle.plc_figures.proofs.names.put_place.Goals as goal

pub returns-in-Bit : goal.returns-in-Bit
returns-in-Bit c = rw c.in-Bit.is c.put_bit.ensures

pub returns-in-Word : goal.returns-in-Word
returns-in-Word c = rw c.in-Word.is c.put_word.ensures

pub returns-in-Pattern : goal.returns-in-Pattern
returns-in-Pattern c = rw c.in-Pattern.is c.put_word-in-Pattern.ensures

pub returns-in-Double : goal.returns-in-Double
returns-in-Double c = rw c.in-Double.is c.put_double.ensures
