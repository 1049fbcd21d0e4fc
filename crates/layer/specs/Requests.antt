-- What a layer is asked, in the words of the definitions.
use Rattle.lending.specs.Office.{Request}
use Rattle.lending.specs.Office.Request.{opening, delegating, assigning}
use Rattle.layer.specs.declared.rule.Request as code
use Rattle.layer.specs.declared.rule.Request.TheVariants.{Open, Delegate, Assign}

-- the request that a value is
abbrev pub request_meant : code.Request → Request
request_meant (Open resource holder) = opening resource holder
request_meant (Delegate lender holder due) = delegating lender holder due
request_meant (Assign lease holder) = assigning lease holder
