-- Every definition opened, for proofs that compute: `unfolding computing`.
use Rattle.std.specs.Prelude.{ℕ}
use Rattle.grammar.specs.Bytes as Bytes
use Rattle.grammar.specs.Tokens as Tokens
use Rattle.grammar.specs.Env as Env
use Rattle.grammar.specs.World as World
use Rattle.grammar.specs.Prog as Prog
use Rattle.grammar.specs.Util as Util
use Rattle.grammar.specs.Ty as Ty
use Rattle.grammar.specs.Pat as Pat
use Rattle.grammar.specs.Exp as Exp
use Rattle.grammar.specs.Dec as Dec
use Rattle.grammar.specs.Root as Root
use Rattle.grammar.specs.Nodes as Nodes
use Rattle.grammar.specs.Read as Read

unfoldable pub computing : ℕ
unfolding Bytes.ascii Bytes.same Bytes.before Tokens.lists_fit Tokens.record_fits Tokens.records_fit Tokens.live Tokens.token_part Tokens.token_text Env.find Env.put Env.remove Env.ranks Env.put_all Env.put_ranks Env.std Env.env_bytes Env.entry_fits Env.entries_of Env.env_of World.token_in World.token_ahead World.ahead World.index_ahead World.says_ahead World.digits World.some_digits World.signed_digits World.parse_u16 World.number_of World.number_ahead World.mode_of World.fixity_ahead World.length_of World.left_of World.refuse World.with_record World.mark World.take_in World.take1 World.end World.place_in World.report World.change_in World.change World.take_change_in World.take_change World.give_back World.ok_since Prog.seen Prog.does Prog.iter Prog.eval Prog.upto Prog.rule Util.eat Util.want Util.choose Util.bump_if Util.semi_turn Util.maybe_semi_sep Util.end_item Util.end_turn Util.end_sep Util.end_sep_node Util.many_turn Util.many_sep Util.many_sep_node Util.should_break Util.eat_name_star Util.part_end Util.path_part Util.path_start Util.path_here Util.path Util.path_must Util.unnecessary_op Util.path_infix Util.without_op Util.path_no_infix Util.bump_ascription Util.lab Ty.ty_must Ty.ty_row Ty.ty_arg Ty.ty_seq Ty.ty_round Ty.ty_inner Ty.ty_head Ty.star_factor Ty.star_turn Ty.ty_arrow Ty.ty_tuple Ty.ty_con Ty.ty_step Ty.ty_scope Ty.ty_var_one Ty.ty_var_many Ty.ty_vars Ty.ty_var_seq Ty.of_ty Ty.ty_annotation Pat.pat_must Pat.con_path Pat.as_pat_tl Pat.pat_row Pat.pat_arg Pat.at_pat_l_round Pat.vector Pat.at_pat_rest Pat.at_pat_head Pat.at_pat Pat.at_pat_must Pat.should_break_pat Pat.con_op Pat.con_turn Pat.con_name Pat.con_head Pat.infix_pat Pat.op_step Pat.or_step Pat.typed_step Pat.as_step Pat.pat_step Pat.op_tail Pat.pat_tail Pat.con_pat Pat.atom_pat Pat.pat_scope Exp.exp_must Exp.eq_exp Exp.want_exp Exp.arm Exp.matcher Exp.paren_end Exp.at_exp_l_round Exp.op_exp Exp.update_path Exp.record_update Exp.record_start Exp.exp_row Exp.hash_exp Exp.let_body Exp.let_exp Exp.at_exp_leaf Exp.at_exp_head Exp.at_exp Exp.at_exp_must Exp.app_exp Exp.end_closure Exp.decide Exp.right_side Exp.climb Exp.name_step Exp.exp_step Exp.need_parens Exp.keyword Exp.keyed Exp.exp_head Exp.exp_rest Exp.exp_scope Dec.rec_pat Dec.val_bind Dec.infix_name Dec.infix_head Dec.prefix_op Dec.prefix_name Dec.other_head Dec.fun_head Dec.fun_left Dec.fun_case Dec.fun_bind Dec.ty_name Dec.eq_ty Dec.ty_bind Dec.op_name Dec.con_bind Dec.eq_con_binds Dec.dat_bind Dec.with_type Dec.dat_binds Dec.datatype Dec.ex_bind Dec.large_fixity Dec.fixity_number Dec.fixity Dec.names_turn Dec.infix_dec Dec.infixr_dec Dec.nonfix_dec Dec.ended Dec.local_tail Dec.local_dec Dec.str_must Dec.sig_must Dec.ascription_tail Dec.ascription_opt Dec.str_bind Dec.sig_bind Dec.functor_arg Dec.functor_bind Dec.many_closure Dec.es_import_name Dec.es_import_spec Dec.attr_turn Dec.es_import_attrs Dec.es_import_default Dec.es_import_specs Dec.es_import_from Dec.es_import Dec.fix_dec Dec.leaf_dec Dec.bump_vars Dec.abstype_head Dec.other_dec Dec.module_dec Dec.core_dec Dec.dec_head Dec.dec_one Dec.sharing_turn Dec.sharings Dec.bare_tail Dec.full_tail Dec.dec_with_tail Dec.semi_closure Dec.decs Dec.app_start Dec.str_app Dec.str_path Dec.str_let Dec.str_head Dec.str_step Dec.str_scope Dec.sig_head Dec.where_tail Dec.sig_step Dec.wheres Dec.sig_scope Root.root_turn Root.root Root.body Nodes.insert Nodes.place Nodes.nodes_bytes Nodes.nodes_of Nodes.find_bytes Read.settings_fit Read.start Read.reading Read.pad Read.refusal Read.handed Read.finish Read.read_with Read.read
computing = 0
