use Rattle.asm_words.proofs.Aliases.{sei_is, cli_is, brcs_is, brcc_is, breq_is, brne_is, clr_is, tst_is, lsl_is, rol_is, ld_y_is, ld_z_is, st_y_is, st_z_is}
use Rattle.asm_words.proofs.law.alias_law.Goals as goal

pub returns-clause-sei : goal.returns-clause-sei
returns-clause-sei c = sei_is

pub returns-clause-cli : goal.returns-clause-cli
returns-clause-cli c = cli_is

pub returns-clause-brcs : goal.returns-clause-brcs
returns-clause-brcs c = brcs_is

pub returns-clause-brcc : goal.returns-clause-brcc
returns-clause-brcc c = brcc_is

pub returns-clause-breq : goal.returns-clause-breq
returns-clause-breq c = breq_is

pub returns-clause-brne : goal.returns-clause-brne
returns-clause-brne c = brne_is

pub returns-clause-clr : goal.returns-clause-clr
returns-clause-clr c = clr_is

pub returns-clause-tst : goal.returns-clause-tst
returns-clause-tst c = tst_is

pub returns-clause-lsl : goal.returns-clause-lsl
returns-clause-lsl c = lsl_is

pub returns-clause-rol : goal.returns-clause-rol
returns-clause-rol c = rol_is

pub returns-clause-ld_y : goal.returns-clause-ld_y
returns-clause-ld_y c = ld_y_is

pub returns-clause-ld_z : goal.returns-clause-ld_z
returns-clause-ld_z c = ld_z_is

pub returns-clause-st_y : goal.returns-clause-st_y
returns-clause-st_y c = st_y_is

pub returns-clause-st_z : goal.returns-clause-st_z
returns-clause-st_z c = st_z_is
