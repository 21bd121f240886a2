-- The words of the grammar as they are written.
use Rattle.std.proofs.Common.{codes, refl}
use Rattle.sql_lex.specs.declared.keyword.Keyword.TheVariants as words
use Rattle.sql_syntax.specs.Tokens.{key}
use Rattle.sql_text.proofs.Reading.{Said}
use Rattle.sql_text.proofs.Written.{keyword_said}

pub say_create : Said (key words.Create) (codes "CREATE")
say_create = keyword_said words.Create 67 (codes "REATE") refl refl refl refl

pub say_table : Said (key words.Table) (codes "TABLE")
say_table = keyword_said words.Table 84 (codes "ABLE") refl refl refl refl

pub say_function : Said (key words.Function) (codes "FUNCTION")
say_function = keyword_said words.Function 70 (codes "UNCTION") refl refl refl refl

pub say_procedure : Said (key words.Procedure) (codes "PROCEDURE")
say_procedure = keyword_said words.Procedure 80 (codes "ROCEDURE") refl refl refl refl

pub say_trigger : Said (key words.Trigger) (codes "TRIGGER")
say_trigger = keyword_said words.Trigger 84 (codes "RIGGER") refl refl refl refl

pub say_drop : Said (key words.Drop) (codes "DROP")
say_drop = keyword_said words.Drop 68 (codes "ROP") refl refl refl refl

pub say_truncate : Said (key words.Truncate) (codes "TRUNCATE")
say_truncate = keyword_said words.Truncate 84 (codes "RUNCATE") refl refl refl refl

pub say_insert : Said (key words.Insert) (codes "INSERT")
say_insert = keyword_said words.Insert 73 (codes "NSERT") refl refl refl refl

pub say_ignore : Said (key words.Ignore) (codes "IGNORE")
say_ignore = keyword_said words.Ignore 73 (codes "GNORE") refl refl refl refl

pub say_into : Said (key words.Into) (codes "INTO")
say_into = keyword_said words.Into 73 (codes "NTO") refl refl refl refl

pub say_replace : Said (key words.Replace) (codes "REPLACE")
say_replace = keyword_said words.Replace 82 (codes "EPLACE") refl refl refl refl

pub say_update : Said (key words.Update) (codes "UPDATE")
say_update = keyword_said words.Update 85 (codes "PDATE") refl refl refl refl

pub say_delete : Said (key words.Delete) (codes "DELETE")
say_delete = keyword_said words.Delete 68 (codes "ELETE") refl refl refl refl

pub say_from : Said (key words.From) (codes "FROM")
say_from = keyword_said words.From 70 (codes "ROM") refl refl refl refl

pub say_set : Said (key words.Set) (codes "SET")
say_set = keyword_said words.Set 83 (codes "ET") refl refl refl refl

pub say_where : Said (key words.Where) (codes "WHERE")
say_where = keyword_said words.Where 87 (codes "HERE") refl refl refl refl

pub say_order : Said (key words.Order) (codes "ORDER")
say_order = keyword_said words.Order 79 (codes "RDER") refl refl refl refl

pub say_by : Said (key words.By) (codes "BY")
say_by = keyword_said words.By 66 (codes "Y") refl refl refl refl

pub say_desc : Said (key words.Desc) (codes "DESC")
say_desc = keyword_said words.Desc 68 (codes "ESC") refl refl refl refl

pub say_limit : Said (key words.Limit) (codes "LIMIT")
say_limit = keyword_said words.Limit 76 (codes "IMIT") refl refl refl refl

pub say_offset : Said (key words.Offset) (codes "OFFSET")
say_offset = keyword_said words.Offset 79 (codes "FFSET") refl refl refl refl

pub say_select : Said (key words.Select) (codes "SELECT")
say_select = keyword_said words.Select 83 (codes "ELECT") refl refl refl refl

pub say_do : Said (key words.Do) (codes "DO")
say_do = keyword_said words.Do 68 (codes "O") refl refl refl refl

pub say_call : Said (key words.Call) (codes "CALL")
say_call = keyword_said words.Call 67 (codes "ALL") refl refl refl refl

pub say_begin : Said (key words.Begin) (codes "BEGIN")
say_begin = keyword_said words.Begin 66 (codes "EGIN") refl refl refl refl

pub say_commit : Said (key words.Commit) (codes "COMMIT")
say_commit = keyword_said words.Commit 67 (codes "OMMIT") refl refl refl refl

pub say_rollback : Said (key words.Rollback) (codes "ROLLBACK")
say_rollback = keyword_said words.Rollback 82 (codes "OLLBACK") refl refl refl refl

pub say_to : Said (key words.To) (codes "TO")
say_to = keyword_said words.To 84 (codes "O") refl refl refl refl

pub say_savepoint : Said (key words.Savepoint) (codes "SAVEPOINT")
say_savepoint = keyword_said words.Savepoint 83 (codes "AVEPOINT") refl refl refl refl

pub say_release : Said (key words.Release) (codes "RELEASE")
say_release = keyword_said words.Release 82 (codes "ELEASE") refl refl refl refl

pub say_end : Said (key words.End) (codes "END")
say_end = keyword_said words.End 69 (codes "ND") refl refl refl refl

pub say_if : Said (key words.If) (codes "IF")
say_if = keyword_said words.If 73 (codes "F") refl refl refl refl

pub say_then : Said (key words.Then) (codes "THEN")
say_then = keyword_said words.Then 84 (codes "HEN") refl refl refl refl

pub say_elseif : Said (key words.Elseif) (codes "ELSEIF")
say_elseif = keyword_said words.Elseif 69 (codes "LSEIF") refl refl refl refl

pub say_else : Said (key words.Else) (codes "ELSE")
say_else = keyword_said words.Else 69 (codes "LSE") refl refl refl refl

pub say_while : Said (key words.While) (codes "WHILE")
say_while = keyword_said words.While 87 (codes "HILE") refl refl refl refl

pub say_return : Said (key words.Return) (codes "RETURN")
say_return = keyword_said words.Return 82 (codes "ETURN") refl refl refl refl

pub say_returns : Said (key words.Returns) (codes "RETURNS")
say_returns = keyword_said words.Returns 82 (codes "ETURNS") refl refl refl refl

pub say_declare : Said (key words.Declare) (codes "DECLARE")
say_declare = keyword_said words.Declare 68 (codes "ECLARE") refl refl refl refl

pub say_default : Said (key words.Default) (codes "DEFAULT")
say_default = keyword_said words.Default 68 (codes "EFAULT") refl refl refl refl

pub say_values : Said (key words.Values) (codes "VALUES")
say_values = keyword_said words.Values 86 (codes "ALUES") refl refl refl refl

pub say_on : Said (key words.On) (codes "ON")
say_on = keyword_said words.On 79 (codes "N") refl refl refl refl

pub say_duplicate : Said (key words.Duplicate) (codes "DUPLICATE")
say_duplicate = keyword_said words.Duplicate 68 (codes "UPLICATE") refl refl refl refl

pub say_key : Said (key words.Key) (codes "KEY")
say_key = keyword_said words.Key 75 (codes "EY") refl refl refl refl

pub say_null : Said (key words.Null) (codes "NULL")
say_null = keyword_said words.Null 78 (codes "ULL") refl refl refl refl

pub say_not : Said (key words.Not) (codes "NOT")
say_not = keyword_said words.Not 78 (codes "OT") refl refl refl refl

pub say_auto_increment : Said (key words.AutoIncrement) (codes "AUTO_INCREMENT")
say_auto_increment = keyword_said words.AutoIncrement 65 (codes "UTO_INCREMENT") refl refl refl refl

pub say_primary : Said (key words.Primary) (codes "PRIMARY")
say_primary = keyword_said words.Primary 80 (codes "RIMARY") refl refl refl refl

pub say_unique : Said (key words.Unique) (codes "UNIQUE")
say_unique = keyword_said words.Unique 85 (codes "NIQUE") refl refl refl refl

pub say_int : Said (key words.Int) (codes "INT")
say_int = keyword_said words.Int 73 (codes "NT") refl refl refl refl

pub say_bigint : Said (key words.Bigint) (codes "BIGINT")
say_bigint = keyword_said words.Bigint 66 (codes "IGINT") refl refl refl refl

pub say_varchar : Said (key words.Varchar) (codes "VARCHAR")
say_varchar = keyword_said words.Varchar 86 (codes "ARCHAR") refl refl refl refl

pub say_before : Said (key words.Before) (codes "BEFORE")
say_before = keyword_said words.Before 66 (codes "EFORE") refl refl refl refl

pub say_after : Said (key words.After) (codes "AFTER")
say_after = keyword_said words.After 65 (codes "FTER") refl refl refl refl

pub say_for : Said (key words.For) (codes "FOR")
say_for = keyword_said words.For 70 (codes "OR") refl refl refl refl

pub say_each : Said (key words.Each) (codes "EACH")
say_each = keyword_said words.Each 69 (codes "ACH") refl refl refl refl

pub say_row : Said (key words.Row) (codes "ROW")
say_row = keyword_said words.Row 82 (codes "OW") refl refl refl refl

pub say_or : Said (key words.Or) (codes "OR")
say_or = keyword_said words.Or 79 (codes "R") refl refl refl refl

pub say_and : Said (key words.And) (codes "AND")
say_and = keyword_said words.And 65 (codes "ND") refl refl refl refl

pub say_div : Said (key words.Div) (codes "DIV")
say_div = keyword_said words.Div 68 (codes "IV") refl refl refl refl

pub say_mod : Said (key words.Mod) (codes "MOD")
say_mod = keyword_said words.Mod 77 (codes "OD") refl refl refl refl

pub say_is : Said (key words.Is) (codes "IS")
say_is = keyword_said words.Is 73 (codes "S") refl refl refl refl

pub say_in : Said (key words.In) (codes "IN")
say_in = keyword_said words.In 73 (codes "N") refl refl refl refl

pub say_case : Said (key words.Case) (codes "CASE")
say_case = keyword_said words.Case 67 (codes "ASE") refl refl refl refl

pub say_when : Said (key words.When) (codes "WHEN")
say_when = keyword_said words.When 87 (codes "HEN") refl refl refl refl

pub say_exists : Said (key words.Exists) (codes "EXISTS")
say_exists = keyword_said words.Exists 69 (codes "XISTS") refl refl refl refl

pub say_new : Said (key words.New) (codes "NEW")
say_new = keyword_said words.New 78 (codes "EW") refl refl refl refl

pub say_old : Said (key words.Old) (codes "OLD")
say_old = keyword_said words.Old 79 (codes "LD") refl refl refl refl

pub say_count : Said (key words.Count) (codes "COUNT")
say_count = keyword_said words.Count 67 (codes "OUNT") refl refl refl refl

pub say_sum : Said (key words.Sum) (codes "SUM")
say_sum = keyword_said words.Sum 83 (codes "UM") refl refl refl refl

pub say_min : Said (key words.Min) (codes "MIN")
say_min = keyword_said words.Min 77 (codes "IN") refl refl refl refl

pub say_max : Said (key words.Max) (codes "MAX")
say_max = keyword_said words.Max 77 (codes "AX") refl refl refl refl

pub say_name_const : Said (key words.NameConst) (codes "NAME_CONST")
say_name_const = keyword_said words.NameConst 78 (codes "AME_CONST") refl refl refl refl

pub say_floor : Said (key words.Floor) (codes "FLOOR")
say_floor = keyword_said words.Floor 70 (codes "LOOR") refl refl refl refl

pub say_rand : Said (key words.Rand) (codes "RAND")
say_rand = keyword_said words.Rand 82 (codes "AND") refl refl refl refl
