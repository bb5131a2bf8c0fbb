pub mod Agreement
pub mod Forms
pub mod AgreementLaws
