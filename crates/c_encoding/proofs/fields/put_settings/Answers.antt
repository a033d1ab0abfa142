use Rattle.c_encoding.proofs.SettingsNumbers.{settings_stored}
use Rattle.c_encoding.proofs.fields.put_settings.Goals as goal

pub returns : goal.returns
returns c = settings_stored c.args.s c.args.out.now c.requires.0 c.widen_bytes.ensures
    c.padding.ensures c.copy.ensures.out_is c.widen_bytes-2.ensures
    c.choices.ensures c.copy-2.ensures.out_is
