pub mod NewOffice
