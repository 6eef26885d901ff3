-- `from_str` meets its contract.
use Rattle.asm_operands.proofs.FirstLaws.{first_laws}
use Rattle.asm_operands.proofs.from_str.Goals as goal

pub returns-in-Ok-Some : goal.returns-in-Ok-Some
returns-in-Ok-Some c = search first_laws depth 14 fits 20000

pub returns-in-Err : goal.returns-in-Err
returns-in-Err c = search first_laws depth 14 fits 20000

pub returns-in-Ok-Some-try_reg_with_reg_offset : goal.returns-in-Ok-Some-try_reg_with_reg_offset
returns-in-Ok-Some-try_reg_with_reg_offset c = search first_laws depth 14 fits 20000

pub returns-in-Err-try_reg_with_reg_offset : goal.returns-in-Err-try_reg_with_reg_offset
returns-in-Err-try_reg_with_reg_offset c = search first_laws depth 14 fits 20000

pub returns-in-Ok-Some-try_reg_with_default_offset : goal.returns-in-Ok-Some-try_reg_with_default_offset
returns-in-Ok-Some-try_reg_with_default_offset c = search first_laws depth 14 fits 20000

pub returns-in-Err-try_reg_with_default_offset : goal.returns-in-Err-try_reg_with_default_offset
returns-in-Err-try_reg_with_default_offset c = search first_laws depth 14 fits 20000

pub returns-in-Ok-Some-try_reg_offset : goal.returns-in-Ok-Some-try_reg_offset
returns-in-Ok-Some-try_reg_offset c = search first_laws depth 14 fits 20000

pub returns-in-Err-try_reg_offset : goal.returns-in-Err-try_reg_offset
returns-in-Err-try_reg_offset c = search first_laws depth 14 fits 20000

pub returns-in-Ok-Some-try_reg : goal.returns-in-Ok-Some-try_reg
returns-in-Ok-Some-try_reg c = search first_laws depth 14 fits 20000

pub returns-in-Err-try_reg : goal.returns-in-Err-try_reg
returns-in-Err-try_reg c = search first_laws depth 14 fits 20000

pub returns-in-Ok-Some-try_immediate_value : goal.returns-in-Ok-Some-try_immediate_value
returns-in-Ok-Some-try_immediate_value c = search first_laws depth 14 fits 20000

pub returns-in-Err-try_immediate_value : goal.returns-in-Err-try_immediate_value
returns-in-Err-try_immediate_value c = search first_laws depth 14 fits 20000

pub returns-in-Ok-Some-try_label : goal.returns-in-Ok-Some-try_label
returns-in-Ok-Some-try_label c = search first_laws depth 14 fits 20000

pub returns-in-Err-try_label : goal.returns-in-Err-try_label
returns-in-Err-try_label c = search first_laws depth 14 fits 20000

pub returns-in-Ok-Some-try_special_reg : goal.returns-in-Ok-Some-try_special_reg
returns-in-Ok-Some-try_special_reg c = search first_laws depth 14 fits 20000

pub returns-in-Err-try_special_reg : goal.returns-in-Err-try_special_reg
returns-in-Err-try_special_reg c = search first_laws depth 14 fits 20000

pub returns-in-Ok-Some-try_identifier : goal.returns-in-Ok-Some-try_identifier
returns-in-Ok-Some-try_identifier c = search first_laws depth 14 fits 20000

pub returns-in-Err-try_identifier : goal.returns-in-Err-try_identifier
returns-in-Err-try_identifier c = search first_laws depth 14 fits 20000

pub returns : goal.returns
returns c = search first_laws depth 14 fits 20000
